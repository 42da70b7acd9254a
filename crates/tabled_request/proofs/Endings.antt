-- Nothing is alike after the end of a text.
use Rattle.std.proofs.Common.{◌≡◌, ℕ, ◌≤◌, drop, List, [], ◌∷◌, length, refl, ap, ◌∙◌}
use Rattle.std.proofs.lemmas.List.{drop_all}
use Rattle.tabled_request.specs.Options.{alike}

pub none_alike : (xs ys : List ℕ) (n : ℕ) → length ys ≤ n → alike xs (drop n ys) ≡ 0
none_alike xs ys n past = ap (alike xs) (drop_all n ys past) ∙ by_none xs
  where
    by_none : (xs : List ℕ) → alike xs [] ≡ 0
    by_none [] = refl
    by_none (x ∷ xs) = refl
