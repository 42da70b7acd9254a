-- Lists in a row, one for each number below another.
use Rattle.std.proofs.Common.{◌≡◌, ℕ, zero, suc, ◌==◌, ◌<◌, Bool, true, false, List, [], ◌++◌, sym, ap, refl, ◌∙◌, arith, flat_map, filter, nat_lt, append-nil, add-one}
use Rattle.std.proofs.lemmas.Bool.{eqb-true}
use Rattle.std.proofs.lemmas.Bool.Decides.{nat_tests}
use Rattle.std.proofs.lemmas.List.Elements.{filter-append}
use Rattle.tabled_object.specs.Entities.{below}
use Rattle.tabled_configuration.proofs.Below.{flat_map_below}
use Rattle.tabled_correction.specs.Correction.{Write, where_so}

-- one number more
one_further : {A : Type 0} (f : ℕ → List A) (n : ℕ) → flat_map f (below (suc n)) ≡ flat_map f (below n) ++ f n
one_further f n = ap (λ m. flat_map f (below m)) (sym (add-one n)) ∙ flat_map_below f n

-- nothing for each number is nothing
pub none_below : {A : Type 0} (f : ℕ → List A) (n : ℕ) → ((k : ℕ) → k < n → f k ≡ []) → flat_map f (below n) ≡ []
none_below f zero none = refl
none_below f (suc n) none = one_further f n ∙ (λ i. none_below f n (λ k within. none k (omega arith)) i ++ none n (omega arith) i)

-- where only writes that stand for one number pass a test, these are all that pass
module _ (test : Write → Bool) (f : ℕ → List Write) (k : ℕ) (others : (j : ℕ) → (j == k) ≡ false → filter test (f j) ≡ []) where
  not_same : (n : ℕ) → (n == k) ≡ false → nat_lt k (suc n) ≡ nat_lt k n
  not_same n apart = grind (arith, nat_tests)

  not_yet : (n : ℕ) → (n == k) ≡ true → nat_lt k n ≡ false
  not_yet n is = grind (arith, nat_tests)

  from_here : (n : ℕ) → (n == k) ≡ true → nat_lt k (suc n) ≡ true
  from_here n is = grind (arith, nat_tests)

  never : nat_lt k 0 ≡ false
  never = grind (arith, nat_tests)

  pub only_one : (n : ℕ) → filter test (flat_map f (below n)) ≡ where_so (nat_lt k n) (filter test (f k))
  only_one zero = ap (λ b. where_so b (filter test (f k))) (sym never)
  only_one (suc n) =
      ap (filter test) (one_further f n) ∙ filter-append test (flat_map f (below n)) (f n) ∙ ap (λ xs. xs ++ filter test (f n)) (only_one n) ∙ by (n == k) refl
    where
      by : (b : Bool) → (n == k) ≡ b → where_so (nat_lt k n) (filter test (f k)) ++ filter test (f n) ≡ where_so (nat_lt k (suc n)) (filter test (f k))
      by false apart =
          ap (λ xs. where_so (nat_lt k n) (filter test (f k)) ++ xs) (others n apart) ∙ append-nil (where_so (nat_lt k n) (filter test (f k)))
          ∙ ap (λ b. where_so b (filter test (f k))) (sym (not_same n apart))
      by true is =
          (λ i. where_so (not_yet n is i) (filter test (f k)) ++ filter test (f (eqb-true n k is i)))
          ∙ ap (λ b. where_so b (filter test (f k))) (sym (from_here n is))
