-- The numbers below a number, one more at a time.
use Rattle.std.proofs.Common.{◌≡◌, ℕ, ◌+◌, List, [], ◌∷◌, ◌++◌, map, sym, ap, refl, ◌∙◌, arith, flat_map, append-nil}
use Rattle.std.proofs.lemmas.List.Concat.{flat_map-append}
use Rattle.std.proofs.lemmas.List.FromFn.{map-range_with_len_more}
use Rattle.tabled_object.specs.Entities.{below}

-- the numbers below n + 1 are those below n, and n
pub below_push : (n : ℕ) → below (n + 1) ≡ below n ++ n ∷ []
below_push n = sym (map_same (below (n + 1))) ∙ map-range_with_len_more (λ k. k) 0 n n (omega arith) ∙ ap (λ xs. xs ++ n ∷ []) (map_same (below n))
  where
    map_same : (xs : List ℕ) → map (λ k. k) xs ≡ xs
    map_same [] = refl
    map_same (x ∷ xs) = ap (λ ys. x ∷ ys) (map_same xs)

pub flat_map_below : {A : Type 0} (f : ℕ → List A) (n : ℕ) → flat_map f (below (n + 1)) ≡ flat_map f (below n) ++ f n
flat_map_below f n = ap (flat_map f) (below_push n) ∙ flat_map-append f (below n) (n ∷ []) ∙ ap (λ xs. flat_map f (below n) ++ xs) (append-nil (f n))
