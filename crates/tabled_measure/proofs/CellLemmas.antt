-- The copies of texts so far.
use Rattle.std.proofs.Common.{◌≡◌, ℕ, ◌+◌, ◌<◌, List, [], ◌∷◌, ◌++◌, map, length, get_or, take, sym, ap, ◌∙◌, arith}
use Rattle.std.proofs.lemmas.List.{map-append, take_more}
use Rattle.std.proofs.lemmas.List.FromFn.{map-range_with_len_more}
use Rattle.tabled_object.specs.Entities.{below}

-- one thing more of a list that is copied, by what it shows
pub copied_more : {A B : Type 0} (f : A → B) (old new : List A) (x : A) (all : List B) (at : ℕ) (d : B) → new ≡ old ++ x ∷ [] → map f old ≡ take at all → at < length all
    → f x ≡ get_or all at d → map f new ≡ take (at + 1) all
copied_more f old new x all at d pushed made within is =
    ap (map f) pushed ∙ map-append f old (x ∷ []) ∙ ap (λ front. front ++ f x ∷ []) made ∙ ap (λ y. take at all ++ y ∷ []) is ∙ sym (take_more all at d within)

-- one thing more that is made of its place
pub made_more : {X : Type 0} (f : ℕ → X) (n : ℕ) → map f (below (n + 1)) ≡ map f (below n) ++ f n ∷ []
made_more f n = map-range_with_len_more f 0 n n (omega arith)
