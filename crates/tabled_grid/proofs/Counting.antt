-- How a count of keys goes with a map.
use Rattle.std.proofs.Common.{◌≡◌, ℕ, Bool, true, false, cond, Option, Some, None, is_some, ◌⊎◌, inl, inr, zero, suc, List, [], ◌∷◌, length, refl, sym, ap, ◌∙◌, ◌+◌, ◌-◌, ◌<◌, ◌≤◌, arith, filter, Ordering}
use Rattle.std.specs.Ordering.{eq_by_cmp}
use Rattle.std.specs.Cmp.{IsTotalOrder, eq_by_cmp_equiv}
use Rattle.std.specs.FinMap as map
use Rattle.tabled_places.proofs.Blocks.{tied}
use Rattle.tabled_grid.specs.Count.{passes, count, one_if}
use Rattle.tabled_kept.specs.Table.{table}
use Rattle.tabled_kept.proofs.Tables.{len-table}

-- the value, if it passes
abbrev passing : {X : Type 0} → (X → Bool) → Option X → Option X
passing test o = cond (passes test o) o None

is_some-passing : {X : Type 0} (test : X → Bool) (o : Option X) → is_some (passing test o) ≡ passes test o
is_some-passing test None = refl
is_some-passing test (Some x) = elim (test x) as (λ b. is_some (cond b (Some x) None) ≡ b) [ true ↦ refl | false ↦ refl ]

-- those of the keys whose value passes
abbrev selected : {K X : Type 0} {R : K → K → Ordering} → (K → X → Bool) → map.FinMap R X → map.FinMap R X
selected test m = map.retain_keys m (λ k. passes (test k) (map.get m k))

-- the counts of an insertion: what was there counts no longer, what is put does
balance_in : (yes was : Bool) (n : ℕ) → (was ≡ true → 0 < n) → cond yes (cond was n (n + 1)) (cond was (n - 1) n) + one_if was ≡ n + one_if yes
balance_in true true n h = omega arith
balance_in true false n h = omega arith
balance_in false true n h = let positive : 0 < n = h refl in omega arith
balance_in false false n h = omega arith

balance_out : (was : Bool) (n : ℕ) → (was ≡ true → 0 < n) → cond was (n - 1) n + one_if was ≡ n
balance_out true n h = let positive : 0 < n = h refl in omega arith
balance_out false n h = omega arith

filter_le : {A : Type 0} (p : A → Bool) (xs : List A) → length (filter p xs) ≤ length xs
filter_le p [] = omega arith
filter_le p (x ∷ xs) = let rest = filter_le p xs in elim (p x) as (λ b. length (cond b (x ∷ filter p xs) (filter p xs)) ≤ length (x ∷ xs)) [ true ↦ omega (arith, rest) | false ↦ omega (arith, rest) ]

zero_or_positive : (n : ℕ) → (n ≡ 0) ⊎ (0 < n)
zero_or_positive zero = inl refl
zero_or_positive (suc n) = inr (omega arith)

module _ {K X : Type 0} {R : K → K → Ordering} (o : IsTotalOrder R) (exact : map.IsAntisymmetric R) where
  get-retained : (m : map.FinMap R X) (p : K → Bool) (q : K) → map.get (map.retain_keys m p) q ≡ cond (p q) (map.get m q) None
  get-retained m p q = map.get-retain_keys m p q (λ x t. ap p (sym (exact q x t)))

  get-selected : (test : K → X → Bool) (m : map.FinMap R X) (q : K) → map.get (selected test m) q ≡ passing (test q) (map.get m q)
  get-selected test m q = get-retained m (λ k. passes (test k) (map.get m k)) q

  contains-selected : (test : K → X → Bool) (m : map.FinMap R X) (q : K) → map.contains_key (selected test m) q ≡ passes (test q) (map.get m q)
  contains-selected test m q = ap is_some (get-selected test m q) ∙ is_some-passing (test q) (map.get m q)

  -- a map in which something is kept is not empty
  pub positive_len : (m : map.FinMap R X) (q : K) → map.contains_key m q ≡ true → 0 < map.len m
  positive_len m q h = elim (zero_or_positive (map.len m)) [
    | inl none ↦ absurd (let e = sym h ∙ ap (λ n. map.contains_key n q) (map.empty_of_len m none) ∙ ap is_some (map.get-empty {X = X} R q) in cc)
    | inr some ↦ some
  ]

  passing-put : (test : K → X → Bool) (q k : K) (v : X) (old : Option X) (same : Bool) → eq_by_cmp R q k ≡ same → passing (test q) (cond same (Some v) old) ≡ cond same (cond (test k v) (Some v) None) (passing (test q) old)
  passing-put test q k v old true e = ap (λ p. cond (test p v) (Some v) None) (tied exact q k e)
  passing-put test q k v old false e = refl

  passing-taken : (test : X → Bool) (old : Option X) (same : Bool) → passing test (cond same None old) ≡ cond same None (passing test old)
  passing-taken test old true = refl
  passing-taken test old false = refl

  selected-insert : (test : K → X → Bool) (m : map.FinMap R X) (k : K) (v : X) (q : K) → map.get (selected test (map.insert m k v)) q ≡ cond (eq_by_cmp R q k) (cond (test k v) (Some v) None) (map.get (selected test m) q)
  selected-insert test m k v q =
      get-selected test (map.insert m k v) q ∙ ap (passing (test q)) (map.get-insert o m k v q)
      ∙ passing-put test q k v (map.get m q) (eq_by_cmp R q k) refl
      ∙ ap (cond (eq_by_cmp R q k) (cond (test k v) (Some v) None)) (sym (get-selected test m q))

  selected-insert_yes : (test : K → X → Bool) (m : map.FinMap R X) (k : K) (v : X) → test k v ≡ true → selected test (map.insert m k v) ≡ map.insert (selected test m) k v
  selected-insert_yes test m k v holds = map.same_map o exact _ _ (λ q.
      selected-insert test m k v q ∙ ap (λ b. cond (eq_by_cmp R q k) (cond b (Some v) None) (map.get (selected test m) q)) holds
      ∙ sym (map.get-insert o (selected test m) k v q))

  selected-insert_no : (test : K → X → Bool) (m : map.FinMap R X) (k : K) (v : X) → test k v ≡ false → selected test (map.insert m k v) ≡ map.remove (selected test m) k
  selected-insert_no test m k v fails = map.same_map o exact _ _ (λ q.
      selected-insert test m k v q ∙ ap (λ b. cond (eq_by_cmp R q k) (cond b (Some v) None) (map.get (selected test m) q)) fails
      ∙ sym (map.get-remove o (selected test m) k q))

  selected-remove : (test : K → X → Bool) (m : map.FinMap R X) (k : K) → selected test (map.remove m k) ≡ map.remove (selected test m) k
  selected-remove test m k = map.same_map o exact _ _ (λ q.
      get-selected test (map.remove m k) q ∙ ap (passing (test q)) (map.get-remove o m k q)
      ∙ passing-taken (test q) (map.get m q) (eq_by_cmp R q k)
      ∙ ap (cond (eq_by_cmp R q k) None) (sym (get-selected test m q)) ∙ sym (map.get-remove o (selected test m) k q))

  some_selected : (test : K → X → Bool) (m : map.FinMap R X) (k : K) → passes (test k) (map.get m k) ≡ true → 0 < map.len (selected test m)
  some_selected test m k h = positive_len (selected test m) k (contains-selected test m k ∙ h)

  -- a put value counts if it passes, and the one that it replaces counts no longer
  pub count-insert : (test : K → X → Bool) (m : map.FinMap R X) (k : K) (v : X) → count test (map.insert m k v) + one_if (passes (test k) (map.get m k)) ≡ count test m + one_if (test k v)
  unfolding count
  count-insert test m k v = by_test (test k v) refl
    where
      by_test : (yes : Bool) → test k v ≡ yes → map.len (selected test (map.insert m k v)) + one_if (passes (test k) (map.get m k)) ≡ map.len (selected test m) + one_if yes
      by_test true e =
          ap (λ n. n + one_if (passes (test k) (map.get m k))) (ap map.len (selected-insert_yes test m k v e) ∙ map.len-insert o (selected test m) k v ∙ ap (λ b. cond b (map.len (selected test m)) (map.len (selected test m) + 1)) (contains-selected test m k))
          ∙ balance_in true (passes (test k) (map.get m k)) (map.len (selected test m)) (some_selected test m k)
      by_test false e =
          ap (λ n. n + one_if (passes (test k) (map.get m k))) (ap map.len (selected-insert_no test m k v e) ∙ map.len-remove o (selected test m) k ∙ ap (λ b. cond b (map.len (selected test m) - 1) (map.len (selected test m))) (contains-selected test m k))
          ∙ balance_in false (passes (test k) (map.get m k)) (map.len (selected test m)) (some_selected test m k)

  -- a value that is taken counts no longer
  pub count-remove : (test : K → X → Bool) (m : map.FinMap R X) (k : K) → count test (map.remove m k) + one_if (passes (test k) (map.get m k)) ≡ count test m
  unfolding count
  count-remove test m k =
      ap (λ n. n + one_if (passes (test k) (map.get m k))) (ap map.len (selected-remove test m k) ∙ map.len-remove o (selected test m) k ∙ ap (λ b. cond b (map.len (selected test m) - 1) (map.len (selected test m))) (contains-selected test m k))
      ∙ balance_out (passes (test k) (map.get m k)) (map.len (selected test m)) (some_selected test m k)

  -- in an empty map nothing counts
  pub count-empty : (test : K → X → Bool) → count test (map.empty {X = X} {R = R}) ≡ 0
  unfolding count
  count-empty test = ap map.len (map.same_map o exact (selected test map.empty) map.empty (λ q. get-selected test map.empty q ∙ ap (passing (test q)) (map.get-empty {X = X} R q) ∙ sym (map.get-empty {X = X} R q))) ∙ map.len-empty R X

  -- a count is positive where something passes
  pub count_positive : (test : K → X → Bool) (m : map.FinMap R X) (k : K) → passes (test k) (map.get m k) ≡ true → 0 < count test m
  unfolding count
  count_positive test m k h = some_selected test m k h

  -- and only there
  pub count_from : (test : K → X → Bool) (m : map.FinMap R X) → 0 < count test m → (k : K) × (passes (test k) (map.get m k) ≡ true)
  unfolding count
  count_from test m h = first_of_keys (map.entries (selected test m)) refl
    where
      first_of_keys : (es : List (K × X)) → map.entries (selected test m) ≡ es → (k : K) × (passes (test k) (map.get m k) ≡ true)
      first_of_keys [] e = absurd (omega (arith, map.len-entries (selected test m), ap length e))
      first_of_keys (x ∷ es) e = (x.0, sym (contains-selected test m x.0) ∙ ap is_some (map.get-entries (selected test m) x.0 ∙ ap (map.find R x.0) e ∙ ap (λ b. cond b (Some x.1) (map.find R x.0 es)) ((eq_by_cmp_equiv o).refl x.0)))

  find-filter : (p : K → Bool) (es : List (K × X)) (q : K) → map.find R q (filter (λ e. p e.0) es) ≡ cond (p q) (map.find R q es) None
  find-filter p [] q = elim (p q) as (λ b. map.find {X = X} R q [] ≡ cond b (map.find R q []) None) [ true ↦ refl | false ↦ refl ]
  find-filter p (e ∷ es) q = step (p e.0) (eq_by_cmp R q e.0) refl refl (find-filter p es q)
    where
      step : (there same : Bool) → p e.0 ≡ there → eq_by_cmp R q e.0 ≡ same → map.find R q (filter (λ x. p x.0) es) ≡ cond (p q) (map.find R q es) None → map.find R q (cond there (e ∷ filter (λ x. p x.0) es) (filter (λ x. p x.0) es)) ≡ cond (p q) (cond same (Some e.1) (map.find R q es)) None
      step true true there same ih = ap (λ b. cond b (Some e.1) (map.find R q (filter (λ x. p x.0) es))) same ∙ ap (λ b. cond b (Some e.1) None) (sym (ap p (tied exact q e.0 same) ∙ there))
      step true false there same ih = ap (λ b. cond b (Some e.1) (map.find R q (filter (λ x. p x.0) es))) same ∙ ih
      step false true there same ih = ih ∙ ap (λ b. cond b (map.find R q es) None) (ap p (tied exact q e.0 same) ∙ there) ∙ ap (λ b. cond b (Some e.1) None) (sym (ap p (tied exact q e.0 same) ∙ there))
      step false false there same ih = ih

  -- no more keys count than there are
  pub count-le : (test : K → X → Bool) (m : map.FinMap R X) → count test m ≤ map.len m
  unfolding count
  count-le test m =
      let p : K → Bool = λ k. passes (test k) (map.get m k) in
      let same : map.retain_keys m p ≡ table R (filter (λ e. p e.0) (map.entries m)) =
      map.same_map o exact _ _ (λ q. get-retained m p q ∙ ap (λ x. cond (p q) x None) (map.get-entries m q) ∙ sym (find-filter p (map.entries m) q) ∙ sym (map.get-from_entries o (filter (λ e. p e.0) (map.entries m)) q)) in
      omega (arith, ap map.len same, len-table o exact (filter (λ e. p e.0) (map.entries m)), filter_le (λ e. p e.0) (map.entries m), map.len-entries m)
