-- The number of entries goes with what is put and taken.
use Rattle.std.proofs.Common.{◌≡◌, ℕ, ◌+◌, ◌-◌, ◌≤◌, Bool, true, false, not, cond, Option, is_some, sym, ap, ◌∙◌, arith, tests, nat_eq, IsTrue, ◌↔◌, zero, suc, Ordering}
use Rattle.std.proofs.lemmas.Bool.Decides.{nat_tests}
use Rattle.std.specs.Cmp.{IsTotalOrder}
use Rattle.std.specs.FinMap as map

unset : (x b : Bool) → x ≡ not b → b ≡ true → x ≡ false
unset x b e t = e ∙ ap not t

set : (x b : Bool) → x ≡ not b → b ≡ false → x ≡ true
set x b e f = e ∙ ap not f

module _ {K V : Type 0} {R : K → K → Ordering} (o : IsTotalOrder R) where
  put_as : (b : Bool) (old new : map.FinMap R V) (k : K) (v : V) (before : Option V) → before ≡ map.get old k → new ≡ map.insert old k v → is_some before ≡ b → map.len new ≡ cond b (map.len old) (map.len old + 1)
  put_as b old new k v before was put there =
      ap map.len put ∙ map.len-insert o old k v ∙ ap (λ c. cond c (map.len old) (map.len old + 1)) (sym (ap is_some was) ∙ there)

  -- one more, where nothing was under the key
  pub one_more : (old new : map.FinMap R V) (k : K) (v : V) (before : Option V) (n : ℕ) (b : Bool) → n ≡ map.len old → before ≡ map.get old k → new ≡ map.insert old k v → is_some before ≡ not b → b ≡ true → n + 1 ≡ map.len new
  one_more old new k v before n b number was put there none =
      ap (λ n. n + 1) number ∙ sym (put_as false old new k v before was put (unset (is_some before) b there none))

  -- as many, where something was
  pub as_many : (old new : map.FinMap R V) (k : K) (v : V) (before : Option V) (n : ℕ) (b : Bool) → n ≡ map.len old → before ≡ map.get old k → new ≡ map.insert old k v → is_some before ≡ not b → b ≡ false → n ≡ map.len new
  as_many old new k v before n b number was put there some =
      number ∙ sym (put_as true old new k v before was put (set (is_some before) b there some))

  taken_as : (b : Bool) (old new : map.FinMap R V) (k : K) (before : Option V) → before ≡ map.get old k → new ≡ map.remove old k → is_some before ≡ b → map.len new ≡ cond b (map.len old - 1) (map.len old)
  taken_as b old new k before was taken there =
      ap map.len taken ∙ map.len-remove o old k ∙ ap (λ c. cond c (map.len old - 1) (map.len old)) (sym (ap is_some was) ∙ there)

  -- one less, where something was taken
  pub one_less : (old new : map.FinMap R V) (k : K) (before : Option V) (n : ℕ) (b : Bool) → n ≡ map.len old → before ≡ map.get old k → new ≡ map.remove old k → b ≡ is_some before → b ≡ true → n - 1 ≡ map.len new
  one_less old new k before n b number was taken there some =
      ap (λ n. n - 1) number ∙ sym (taken_as true old new k before was taken (sym there ∙ some))

  -- as many, where nothing was
  pub none_less : (old new : map.FinMap R V) (k : K) (before : Option V) (n : ℕ) (b : Bool) → n ≡ map.len old → before ≡ map.get old k → new ≡ map.remove old k → b ≡ is_some before → b ≡ false → n ≡ map.len new
  none_less old new k before n b number was taken there none =
      number ∙ sym (taken_as false old new k before was taken (sym there ∙ none))

  -- where something is under a key, there is at least one
  pub some_there : (old : map.FinMap R V) (k : K) (before : Option V) (n : ℕ) (b : Bool) → n ≡ map.len old → before ≡ map.get old k → b ≡ is_some before → b ≡ true → 1 ≤ n
  some_there old k before zero b number was there some =
      let nothing : is_some before ≡ false = ap is_some (was ∙ ap (λ m. map.get m k) (map.empty_of_len old (sym number)) ∙ map.get-empty R k) in
      let no : false ≡ true = sym nothing ∙ sym there ∙ some in
      absurd cc
  some_there old k before (suc n) b number was there some = omega arith

-- there are none exactly where the number is zero
pub none_where_zero : {K V : Type 0} {R : K → K → Ordering} → (m : map.FinMap R V) (n : ℕ) → n ≡ map.len m → IsTrue (nat_eq n 0) ↔ (m ≡ map.empty)
none_where_zero {V = V} {R = R} m n number = (
  λ yes. map.empty_of_len m (sym number ∙ grind (arith, tests, nat_tests, yes)),
  λ none. let zero_of : n ≡ 0 = number ∙ ap map.len none ∙ map.len-empty R V in grind (arith, tests, nat_tests, zero_of),
)
