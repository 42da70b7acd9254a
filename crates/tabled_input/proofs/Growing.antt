-- What a loop over a list has made so far, with one element more.
use Rattle.std.proofs.Common.{◌≡◌, ℕ, suc, ◌+◌, ◌<◌, List, [], ◌∷◌, ◌++◌, get_or, length, map, take, sym, ap, ◌∙◌, arith}
use Rattle.std.proofs.Math.Seq.{take-suc}
use Rattle.std.proofs.lemmas.List.{map-append}

module _ {X Y Z : Type 0} (f : X → Y) (g : Y → Z) where
  pub one_more : (xs : List X) (i : ℕ) (x : X) (made : List Z) (z : Z) (all : List Z) → i < length xs → x ≡ get_or xs i x → made ≡ map g (map f (take i xs)) → z ≡ g (f x)
      → all ≡ made ++ z ∷ [] → all ≡ map g (map f (take (i + 1) xs))
  one_more xs i x made z all within is so_far by put =
      let next : take (i + 1) xs ≡ take i xs ++ x ∷ [] = ap (λ n. take n xs) (let e : i + 1 ≡ suc i = omega arith in e) ∙ take-suc xs i x within ∙ ap (λ y. take i xs ++ y ∷ []) (sym is) in
      put ∙ (λ j. so_far j ++ by j ∷ []) ∙ sym (map-append g (map f (take i xs)) (f x ∷ [])) ∙ ap (map g) (sym (map-append f (take i xs) (x ∷ []))) ∙ ap (λ l. map g (map f l)) (sym next)
