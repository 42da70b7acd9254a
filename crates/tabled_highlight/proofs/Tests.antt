-- Tests that hold, and lists of tests.
use Rattle.std.proofs.Common.{◌≡◌, ℕ, ◌+◌, ◌==◌, ◌||◌, suc, Bool, true, false, nat_lt, List, [], ◌∷◌, refl, ap, subst, ◌∙◌, arith}
use Rattle.std.specs.List.{list_any, flat_map}
use Rattle.std.proofs.lemmas.Bool.{eqb-true, or_left, or_right}
use Rattle.std.proofs.lemmas.Bool.Decides.{nat_tests}
use Rattle.std.proofs.lemmas.List.Folds.{list_any-append}
use Rattle.tabled_object.specs.Entities.{below}
use Rattle.tabled_object.proofs.Sets.{any_below}

pub one_holds : (a b : Bool) → (a || b) ≡ true → {P : Type 0} → (a ≡ true → P) → (b ≡ true → P) → P
one_holds true b h f g = f refl
one_holds false true h f g = g refl
one_holds false false h f g = absurd cc

pub less_here : (n m : ℕ) → nat_lt n m ≡ true → nat_lt n (m + 1) ≡ true
less_here n m h = grind (arith, nat_tests)

pub less_next : (n m : ℕ) → nat_lt n m ≡ true → nat_lt (suc n) (m + 1) ≡ true
less_next n m h = grind (arith, nat_tests)

found_at : (p : ℕ → Bool) (n : ℕ) (xs : List ℕ) → p n ≡ true → list_any (λ m. n == m) xs ≡ true → list_any p xs ≡ true
found_at p n [] h k = absurd cc
found_at p n (x ∷ xs) h k =
    one_holds (n == x) (list_any (λ m. n == m) xs) k (λ e. or_left (p x) (list_any p xs) (subst (λ m. p m ≡ true) (eqb-true n x e) h))
    (λ e. or_right (p x) (list_any p xs) (found_at p n xs h e))

-- a number below a count is among those
pub found_below : (p : ℕ → Bool) (n count : ℕ) → nat_lt n count ≡ true → p n ≡ true → list_any p (below count) ≡ true
found_below p n count inside h = found_at p n (below count) h (any_below n count ∙ inside)

pub any_flat : {A B : Type 0} (p : B → Bool) (f : A → List B) (xs : List A) → list_any p (flat_map f xs) ≡ list_any (λ x. list_any p (f x)) xs
any_flat p f [] = refl
any_flat p f (x ∷ xs) = list_any-append p (f x) (flat_map f xs) ∙ ap (λ b. list_any p (f x) || b) (any_flat p f xs)
