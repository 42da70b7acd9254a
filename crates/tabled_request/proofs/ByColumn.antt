-- Columns one by one.
use Rattle.std.proofs.Common.{◌≡◌, ◌+◌, ℕ, List, [], ◌∷◌, ◌++◌, map, sym, ap, ◌∙◌, arith}
use Rattle.std.specs.List.{range_with_len}
use Rattle.std.proofs.lemmas.List.FromFn.{map-range_with_len_more}

pub one_more_of : {S : Type 0} (f : ℕ → S) (done : List S) (next : S) (n : ℕ) → done ≡ map f (range_with_len 0 n) → next ≡ f n → done ++ next ∷ [] ≡ map f (range_with_len 0 (n + 1))
one_more_of f done next n e g =
    ap (λ front. front ++ next ∷ []) e ∙ ap (λ x. map f (range_with_len 0 n) ++ x ∷ []) g ∙ sym (map-range_with_len_more f 0 n n (omega arith))
