-- A list of which the first ones were changed.
use Rattle.std.proofs.Common.{◌≡◌, ℕ, zero, suc, ◌<◌, ◌≤◌, List, [], ◌∷◌, length, get_or, map, set, refl, ap, arith}

module _ {X : Type 0} (f : X → X) where
  abbrev pub mapped_to : ℕ → List X → List X
  mapped_to zero xs = xs
  mapped_to (suc count) [] = []
  mapped_to (suc count) (x ∷ xs) = f x ∷ mapped_to count xs

  pub next_left : (count : ℕ) (xs : List X) (d : X) → get_or (mapped_to count xs) count d ≡ get_or xs count d
  next_left zero xs d = refl
  next_left (suc count) [] d = refl
  next_left (suc count) (x ∷ xs) d = next_left count xs d

  pub next_mapped : (count : ℕ) (xs : List X) (d : X) → count < length xs → set (mapped_to count xs) count (f (get_or xs count d)) ≡ mapped_to (suc count) xs
  next_mapped count [] d h = absurd (omega (arith, h))
  next_mapped zero (x ∷ xs) d h = refl
  next_mapped (suc count) (x ∷ xs) d h = ap (λ more. f x ∷ more) (next_mapped count xs d (omega (arith, h)))

  pub all_mapped : (count : ℕ) (xs : List X) → length xs ≤ count → mapped_to count xs ≡ map f xs
  all_mapped zero [] h = refl
  all_mapped zero (x ∷ xs) h = absurd (omega (arith, h))
  all_mapped (suc count) [] h = refl
  all_mapped (suc count) (x ∷ xs) h = ap (λ more. f x ∷ more) (all_mapped count xs (omega (arith, h)))
