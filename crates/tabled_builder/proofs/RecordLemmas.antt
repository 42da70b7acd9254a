-- How many texts records have, and more records.
use Rattle.std.proofs.Common.{◌≡◌, ℕ, List, [], ◌∷◌, map, length, refl, arith, vec_len}
use Rattle.std.specs.declared.vec.Vec.{Vec}
use Rattle.std.proofs.lemmas.List.{length-map}
use Rattle.tabled_cells.specs.TextsBy.{texts_by}

module _ {T W : Type 0} (bytes : T → List ℕ) where
  pub lengths : (rows : List (Vec T W)) → map vec_len rows ≡ map length (texts_by bytes rows)
  lengths [] = refl
  lengths (row ∷ rows) =
      let ok = row.ok in
      let long = length-map row.items bytes in
      let same : vec_len row ≡ length (map bytes row.items) = omega (arith, long, ok) in
      λ i. same i ∷ lengths rows i
