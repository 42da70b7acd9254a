-- A map kept under numbers, in rising order: what stands in the slots of the first row, and then the others.
use Rattle.std.proofs.Common.{◌≡◌, ℕ, zero, suc, ◌+◌, ◌*◌, ◌^◌, ◌<◌, ◌≤◌, Bool, true, false, cond, Option, Some, None, is_some, IsSome, List, [], ◌∷◌, ◌++◌, inl, inr, refl, sym, ap, ◌∙◌, arith, tests, slice_index_or, nat_lt, if◌then◌else◌, ◌⊎◌, Less}
use Rattle.std.specs.List.{AllByRecursion}
use Rattle.std.specs.List.Sorted.{IsStrictlySortedBy}
use Rattle.std.specs.Map.{keys_of}
use Rattle.std.specs.Ordering.{nat_cmp, is_eq, eq_by_cmp}
use Rattle.std.specs.Cmp.{nat_cmp_total, nat_cmp_is, tied_itself}
use Rattle.std.specs.FinMap as map
use Rattle.std.proofs.lemmas.Bool.{cases_lt}
use Rattle.std.proofs.lemmas.Bool.Decides.{nat_tests}
use Rattle.tabled_kept.specs.Slots.{slot_cmp, slots_total, numbered}
use Rattle.tabled_keys.specs.Slots.{slot, slot_of_number, number_at_slot, numbers_back}
use Rattle.tabled_kept.specs.Sheet.{far_number}
use Rattle.tabled_kept.specs.Table.{table}
use Rattle.tabled_kept.specs.Kept.{all_entries, Parted}
use Rattle.tabled_kept.proofs.SlotLemmas.{or_else, find-append, find-slots}
use Rattle.tabled_kept.proofs.Ascending.{entries-table}
use Rattle.tabled_kept.proofs.TableLemmas.{exact_slots}
use Rattle.tabled_kept.proofs.Joining.{at_slot, get-all_entries}
use Rattle.tabled_kept.proofs.KeptLemmas.{none_or}

module _ {V : Type 0} where
  abbrev Above : ℕ → List (ℕ × V) → Type 0
  Above n es = AllByRecursion (λ k. nat_cmp n k ≡ Less) (keys_of es)

  abbrev Sorted : List (ℕ × V) → Type 0
  Sorted es = IsStrictlySortedBy nat_cmp (keys_of es)

  -- keys of which none is small
  Large : List (ℕ × V) → Type 0
  Large es = AllByRecursion (λ k. 256 ≤ k) (keys_of es)

  all_large : (es : List (ℕ × V)) → ((k : ℕ) → k < 256 → map.find nat_cmp k es ≡ None) → Large es
  unfolding Large
  all_large [] h = tt
  all_large (e ∷ es) h = (first (cases_lt e.0 256), all_large es (λ k small. later (eq_by_cmp nat_cmp k e.0) (map.find nat_cmp k es) (h k small)))
    where
      first : (e.0 < 256) ⊎ (256 ≤ e.0) → 256 ≤ e.0
      first (inl small) = absurd (let none = sym (ap (λ r. cond (is_eq r) (Some e.1) (map.find nat_cmp e.0 es)) (tied_itself nat_cmp_total e.0)) ∙ h e.0 small in cc)
      first (inr large) = large

      later : (b : Bool) (x : Option V) → cond b (Some e.1) x ≡ None → x ≡ None
      later true x none = absurd cc
      later false x none = none

  above_small : (n : ℕ) (es : List (ℕ × V)) → n < 256 → Large es → Above n es
  unfolding Large
  above_small n [] small large = tt
  above_small n (e ∷ es) small large = (sym (nat_cmp_is n e.0 Less (omega (arith, small, large.0))), above_small n es small large.1)

  above_all : (n m : ℕ) (slots : List (Option V)) (es : List (ℕ × V)) → n < m → n < 256 → Large es → Above n (numbered m slots ++ es)
  above_all n m [] es less small large = above_small n es small large
  above_all n m (None ∷ slots) es less small large = above_all n (suc m) slots es (omega arith) small large
  above_all n m (Some x ∷ slots) es less small large = (sym (nat_cmp_is n m Less less), above_all n (suc m) slots es (omega arith) small large)

  rising : (n : ℕ) (slots : List (Option V)) (es : List (ℕ × V)) → ((k : ℕ) → IsSome (slice_index_or slots k None) → n + k < 256) → Large es → Sorted es → Sorted (numbered n slots ++ es)
  unfolding IsStrictlySortedBy
  rising n [] es small large sorted = sorted
  rising n (None ∷ slots) es small large sorted = rising (suc n) slots es (λ k some. omega (arith, small (suc k) some)) large sorted
  rising n (Some x ∷ slots) es small large sorted =
      (above_all n (suc n) slots es (omega arith) (omega (arith, small zero refl)) large, rising (suc n) slots es (λ k some. omega (arith, small (suc k) some)) large sorted)

  -- only small numbers have a slot
  small_only : (dense : map.FinMap slot_cmp V) (others : List (ℕ × V)) → Parted nat_cmp slot_of_number number_at_slot dense others → (k : ℕ) → IsSome (map.get dense (slot 0 k)) → nat_lt k 256 ≡ true
  small_only dense others parted k some = by_test (nat_lt k 256) (parted.in_place (slot 0 k) some)
    where
      by_test : (b : Bool) → (if b then Some (slot 0 k) else None) ≡ Some (slot 0 k) → b ≡ true
      by_test true e = refl
      by_test false e = absurd cc

  -- so all of their slots stand in the first row
  pub all_in_row : (slots : List (Option V)) (dense : map.FinMap slot_cmp V) (others : List (ℕ × V)) → Parted nat_cmp slot_of_number number_at_slot dense others → ((k : ℕ) → slice_index_or slots k None ≡ (if is_some (far_number (slot 0 k)) then None else map.get dense (slot 0 k))) → (k : ℕ) → slice_index_or slots k None ≡ map.get dense (slot 0 k)
  all_in_row slots dense others parted first_row k = by_test (is_some (far_number (slot 0 k))) refl
    where
      near : nat_lt k 256 ≡ true → is_some (far_number (slot 0 k)) ≡ false
      near less =
          let small : nat_lt k 1024 ≡ true = grind (arith, tests, nat_tests, less) in
          ap (λ b. is_some (if b then None else if nat_lt k (2 ^ 32) then Some (0 * 2 ^ 32 + k) else None)) small

      by_test : (b : Bool) → is_some (far_number (slot 0 k)) ≡ b → slice_index_or slots k None ≡ map.get dense (slot 0 k)
      by_test false is = first_row k ∙ ap (λ b. if b then None else map.get dense (slot 0 k)) is
      by_test true is =
          first_row k ∙ ap (λ b. if b then None else map.get dense (slot 0 k)) is
          ∙ sym (none_or (map.get dense (slot 0 k)) (λ some. absurd (let both = sym is ∙ near (small_only dense others parted k some) in cc)))

  module _ (slots : List (Option V)) (dense : map.FinMap slot_cmp V) (others : List (ℕ × V)) (first_row : (k : ℕ) → slice_index_or slots k None ≡ map.get dense (slot 0 k)) (parted : Parted nat_cmp slot_of_number number_at_slot dense others) (sorted : Sorted others) where
    pub in_order : Sorted (numbered 0 slots ++ others)
    in_order = rising 0 slots others
        (λ k some. let less = small_only dense others parted k (sym (ap is_some (first_row k)) ∙ some) in grind (arith, tests, nat_tests, less))
        (all_large others (λ k small. sym (map.get-from_entries nat_cmp_total others k) ∙ parted.apart k (has_slot k (grind (arith, tests, nat_tests, small)))))
        sorted
      where
        has_slot : (k : ℕ) → nat_lt k 256 ≡ true → IsSome (slot_of_number k)
        has_slot k e = ap (λ b. is_some (if b then Some (slot 0 k) else None)) e

    same_map_in_order : table nat_cmp (numbered 0 slots ++ others) ≡ table nat_cmp (all_entries number_at_slot dense others)
    same_map_in_order = map.same_map nat_cmp_total map.nat_cmp-IsAntisymmetric _ _ (λ q.
        map.get-from_entries nat_cmp_total (numbered 0 slots ++ others) q ∙ find-append nat_cmp q (numbered 0 slots) others
        ∙ (λ i. or_else ((find-slots slots q ∙ first_row q) i) (sym (map.get-from_entries nat_cmp_total others q) i))
        ∙ by_test q (nat_lt q 256) refl ∙ sym (get-all_entries slots_total exact_slots nat_cmp_total map.nat_cmp-IsAntisymmetric numbers_back dense others parted q))
      where
        nothing_else : (x : Option V) → or_else x None ≡ x
        nothing_else None = refl
        nothing_else (Some x) = refl

        by_test : (q : ℕ) (b : Bool) → nat_lt q 256 ≡ b → or_else (map.get dense (slot 0 q)) (map.get (table nat_cmp others) q) ≡ at_slot (slot_of_number q) (map.get dense) (map.get (table nat_cmp others) q)
        by_test q true small =
            let of_q : slot_of_number q ≡ Some (slot 0 q) = ap (λ b. if b then Some (slot 0 q) else None) small in
            ap (or_else (map.get dense (slot 0 q))) (parted.apart q (ap is_some of_q)) ∙ nothing_else (map.get dense (slot 0 q))
            ∙ ap (λ at. at_slot at (map.get dense) (map.get (table nat_cmp others) q)) (sym of_q)
        by_test q false large =
            let of_q : slot_of_number q ≡ None = ap (λ b. if b then Some (slot 0 q) else None) large in
            let none : map.get dense (slot 0 q) ≡ None = none_or (map.get dense (slot 0 q)) (λ some. absurd (let both = sym large ∙ small_only dense others parted q some in cc)) in
            ap (λ x. or_else x (map.get (table nat_cmp others) q)) none ∙ ap (λ at. at_slot at (map.get dense) (map.get (table nat_cmp others) q)) (sym of_q)

    -- so they are the entries of the whole map
    pub entries_in_order : numbered 0 slots ++ others ≡ map.entries (table nat_cmp (all_entries number_at_slot dense others))
    entries_in_order = sym (entries-table nat_cmp_total (numbered 0 slots ++ others) in_order) ∙ ap map.entries same_map_in_order
