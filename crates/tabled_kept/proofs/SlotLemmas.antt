-- What stands in slots.
use Rattle.std.proofs.Common.{◌≡◌, ℕ, zero, suc, ◌+◌, ◌<◌, ◌≤◌, Bool, true, false, cond, ◌==◌, Option, Some, None, is_some, List, [], ◌∷◌, ◌++◌, length, inl, inr, refl, sym, ap, ◌∙◌, arith, tests, slice_index_or, slice_set, Ordering}
use Rattle.std.specs.Ordering.{nat_cmp, eq_by_cmp}
use Rattle.std.specs.Cmp.{IsTotalOrder, Equal-is, nat_cmp_total, unsigned_tied}
use Rattle.std.proofs.lemmas.List.{get_or_past}
use Rattle.std.specs.FinMap as map
use Rattle.std.proofs.lemmas.Bool.{cases_lt}
use Rattle.std.proofs.lemmas.Bool.Decides.{nat_tests}
use Rattle.tabled_kept.specs.Slots.{numbered, filled}

-- what the first of two has, and else the second
abbrev pub or_else : {X : Type 0} → Option X → Option X → Option X
or_else None other = other
or_else (Some x) other = Some x

pub find-append : {K X : Type 0} (R : K → K → Ordering) (q : K) (es fs : List (K × X)) → map.find R q (es ++ fs) ≡ or_else (map.find R q es) (map.find R q fs)
find-append R q [] fs = refl
find-append {X = X} R q (e ∷ es) fs = by_test (eq_by_cmp R q e.0) (find-append R q es fs)
  where
    by_test : (b : Bool) → map.find R q (es ++ fs) ≡ or_else (map.find R q es) (map.find R q fs) → cond b (Some e.1) (map.find R q (es ++ fs)) ≡ or_else (cond b (Some e.1) (map.find R q es)) (map.find R q fs)
    by_test true rest = refl
    by_test false rest = rest

module _ {V : Type 0} where
  -- a number before the first slot is not there
  before_all : (n k : ℕ) (slots : List (Option V)) → k < n → map.find nat_cmp k (numbered n slots) ≡ None
  before_all n k [] h = refl
  before_all n k (None ∷ slots) h = before_all (suc n) k slots (omega arith)
  before_all n k (Some x ∷ slots) h =
      let other : eq_by_cmp nat_cmp k n ≡ false = unsigned_tied k n ∙ grind (arith, tests, nat_tests) in
      ap (λ b. cond b (Some x) (map.find nat_cmp k (numbered (suc n) slots))) other ∙ before_all (suc n) k slots (omega arith)

  find-numbered : (n k : ℕ) (slots : List (Option V)) → map.find nat_cmp (n + k) (numbered n slots) ≡ slice_index_or slots k None
  find-numbered n k [] = refl
  find-numbered n zero (None ∷ slots) = before_all (suc n) (n + 0) slots (omega arith)
  find-numbered n (suc k) (None ∷ slots) =
      let next : n + suc k ≡ suc n + k = omega arith in
      ap (λ q. map.find nat_cmp q (numbered (suc n) slots)) next ∙ find-numbered (suc n) k slots
  find-numbered n zero (Some x ∷ slots) =
      let here : eq_by_cmp nat_cmp (n + 0) n ≡ true = unsigned_tied (n + 0) n ∙ grind (arith, tests, nat_tests) in
      ap (λ b. cond b (Some x) (map.find nat_cmp (n + 0) (numbered (suc n) slots))) here
  find-numbered n (suc k) (Some x ∷ slots) =
      let next : n + suc k ≡ suc n + k = omega arith in
      let other : eq_by_cmp nat_cmp (n + suc k) n ≡ false = unsigned_tied (n + suc k) n ∙ grind (arith, tests, nat_tests) in
      ap (λ b. cond b (Some x) (map.find nat_cmp (n + suc k) (numbered (suc n) slots))) other
      ∙ ap (λ q. map.find nat_cmp q (numbered (suc n) slots)) next ∙ find-numbered (suc n) k slots

  -- what the slots have under a number is what stands in that slot
  pub find-slots : (slots : List (Option V)) (k : ℕ) → map.find nat_cmp k (numbered 0 slots) ≡ slice_index_or slots k None
  find-slots slots k =
      let same : k ≡ 0 + k = omega arith in
      ap (λ q. map.find nat_cmp q (numbered 0 slots)) same ∙ find-numbered 0 k slots

  pub get-filled : (slots : List (Option V)) (k : ℕ) → map.get (filled slots) k ≡ slice_index_or slots k None
  unfolding filled
  get-filled slots k = map.get-from_entries nat_cmp_total (numbered 0 slots) k ∙ find-slots slots k

  past_end : (slots : List (Option V)) (k : ℕ) → length slots ≤ k → slice_index_or slots k None ≡ None
  past_end slots k h = get_or_past slots k None h

module _ {A : Type 0} where
  -- one more of what is past the end changes nothing
  pub padded : (xs : List A) (k : ℕ) (d : A) → slice_index_or (xs ++ d ∷ []) k d ≡ slice_index_or xs k d
  padded [] zero d = refl
  padded (x ∷ xs) (suc k) d = padded xs k d
  padded xs k d = refl

  -- one item is another now
  pub set_item : (xs : List A) (at : ℕ) (x : A) (k : ℕ) (d : A) → at < length xs → slice_index_or (slice_set xs at x) k d ≡ cond (k == at) x (slice_index_or xs k d)
  set_item [] at x k d h = absurd (omega arith)
  set_item (y ∷ ys) zero x zero d h = refl
  set_item (y ∷ ys) zero x (suc k) d h =
      let apart : (suc k == 0) ≡ false = grind (arith, tests, nat_tests) in
      ap (λ b. cond b x (slice_index_or ys k d)) (sym apart)
  set_item (y ∷ ys) (suc at) x zero d h =
      let apart : (0 == suc at) ≡ false = grind (arith, tests, nat_tests) in
      ap (λ b. cond b x y) (sym apart)
  set_item (y ∷ ys) (suc at) x (suc k) d h =
      let alike : (suc k == suc at) ≡ (k == at) = grind (arith, tests, nat_tests) in
      set_item ys at x k d (omega arith) ∙ ap (λ b. cond b x (slice_index_or ys k d)) (sym alike)

module _ {V : Type 0} where
  same_filled : (a b : map.FinMap nat_cmp V) → ((k : ℕ) → map.get a k ≡ map.get b k) → a ≡ b
  same_filled a b h = map.same_map nat_cmp_total map.nat_cmp-IsAntisymmetric a b h

  pub filled-nil : filled {V = V} [] ≡ map.empty
  unfolding filled
  filled-nil = refl

  pub filled-push : (slots : List (Option V)) → filled (slots ++ None ∷ []) ≡ filled slots
  filled-push slots = same_filled _ _ (λ k. get-filled (slots ++ None ∷ []) k ∙ padded slots k None ∙ sym (get-filled slots k))

  pub filled-put : (slots : List (Option V)) (at : ℕ) (v : V) → at < length slots → filled (slice_set slots at (Some v)) ≡ map.insert (filled slots) at v
  filled-put slots at v h = same_filled _ _ (λ k.
      get-filled (slice_set slots at (Some v)) k ∙ set_item slots at (Some v) k None h
      ∙ sym (map.get-insert nat_cmp_total (filled slots) at v k ∙ (λ i. cond (unsigned_tied k at i) (Some v) (get-filled slots k i))))

  pub filled-take : (slots : List (Option V)) (at : ℕ) → at < length slots → filled (slice_set slots at None) ≡ map.remove (filled slots) at
  filled-take slots at h = same_filled _ _ (λ k.
      get-filled (slice_set slots at None) k ∙ set_item slots at None k None h
      ∙ sym (map.get-remove nat_cmp_total (filled slots) at k ∙ (λ i. cond (unsigned_tied k at i) None (get-filled slots k i))))

  -- where nothing stands, nothing is taken
  pub nothing_taken : {K : Type 0} {R : K → K → Ordering} → IsTotalOrder R → map.IsAntisymmetric R → (m : map.FinMap R V) (k : K) → map.get m k ≡ None → map.remove m k ≡ m
  nothing_taken {K = K} {R = R} o exact m k none = map.same_map o exact _ _ (λ q. map.get-remove o m k q ∙ at_key q (eq_by_cmp R q k) refl)
    where
      at_key : (q : K) (b : Bool) → eq_by_cmp R q k ≡ b → cond b None (map.get m q) ≡ map.get m q
      at_key q true tied = sym (ap (map.get m) (exact q k ((Equal-is (R q k)).0 tied)) ∙ none)
      at_key q false apart = refl

  -- nothing stands in any slot
  pub all_empty : (slots : List (Option V)) → ((k : ℕ) → k < length slots → slice_index_or slots k None ≡ None) → filled slots ≡ map.empty
  all_empty slots h = same_filled _ _ (λ k. get-filled slots k ∙ each k ∙ sym (map.get-empty nat_cmp k))
    where
      each : (k : ℕ) → slice_index_or slots k None ≡ None
      each k = elim (cases_lt k (length slots)) [ inl less ↦ h k less | inr more ↦ past_end slots k more ]

  -- what is seen of slots
  pub in_slot : (slots : List (Option V)) (m : map.FinMap nat_cmp V) → filled slots ≡ m → (k : ℕ) → map.get m k ≡ slice_index_or slots k None
  in_slot slots m e k = ap (λ n. map.get n k) (sym e) ∙ get-filled slots k

  pub in_no_slot : (slots : List (Option V)) (m : map.FinMap nat_cmp V) → filled slots ≡ m → (k : ℕ) → length slots ≤ k → map.get m k ≡ None
  in_no_slot slots m e k h = in_slot slots m e k ∙ past_end slots k h

  pub not_empty : (slots : List (Option V)) (k : ℕ) → is_some (slice_index_or slots k None) ≡ true → filled slots ≡ map.empty → false ≡ true
  not_empty slots k some e = sym (ap is_some (sym (in_slot slots map.empty e k) ∙ map.get-empty nat_cmp k)) ∙ some
