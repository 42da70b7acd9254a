-- Two tables of slots are the same exactly where their rows are.
use Rattle.std.proofs.Common.{◌≡◌, ℕ, ◌<◌, ◌≤◌, Bool, true, false, Option, List, length, inl, inr, refl, sym, ◌∙◌, arith, slice_index_or, unwrap_or, option_copied, nat_cmp}
use Rattle.std.specs.Borrow.{Bor}
use Rattle.std.specs.Option.{option_eq}
use Rattle.std.specs.Cmp.{nat_cmp_total}
use Rattle.std.specs.FinMap as map
use Rattle.std.proofs.lemmas.Bool.{cases_lt}
use Rattle.tabled_kept.specs.Slots.{slot_cmp, slots_total, in_rows}
use Rattle.tabled_keys.specs.Slots.{slot}
use Rattle.tabled_kept.specs.Same.{same_map}
use Rattle.tabled_kept.proofs.SameGets.{get_alike, alike_get, same_decided, both_none}
use Rattle.tabled_kept.proofs.TableLemmas.{in_slot_of, in_no_row}

-- the row that is lent, or an empty one
abbrev pub lent : {V : Type 0} → Option (Bor (map.FinMap nat_cmp V)) → map.FinMap nat_cmp V
lent row = unwrap_or (option_copied row) map.empty

pub same_lent : {V : Type 0} (E : V → V → Bool) (r s r' s' : Option (Bor (map.FinMap nat_cmp V))) → r ≡ r' → s ≡ s' → same_map E (lent r') (lent s') ≡ same_map E (lent r) (lent s)
same_lent E r s r' s' e f = λ i. same_map E (lent (sym e i)) (lent (sym f i))

module _ {V : Type 0} (E : V → V → Bool) (a b : List (map.FinMap nat_cmp V)) (m n : map.FinMap slot_cmp V) (e : in_rows a ≡ m) (f : in_rows b ≡ n) where
  abbrev row : List (map.FinMap nat_cmp V) → ℕ → map.FinMap nat_cmp V
  row rows k = slice_index_or rows k map.empty

  pub row_alike : (k col : ℕ) → true ≡ same_map E (row a k) (row b k) → option_eq E (map.get m (slot k col)) (map.get n (slot k col)) ≡ true
  row_alike k col h =
      (λ i. option_eq E (in_slot_of a m e (slot k col) i) (in_slot_of b n f (slot k col) i)) ∙ get_alike nat_cmp_total E (row a k) (row b k) (sym h) col

  pub rows_alike : (most : ℕ) → ((k col : ℕ) → k < most → option_eq E (map.get m (slot k col)) (map.get n (slot k col)) ≡ true) → length a ≤ most → length b ≤ most → true ≡ same_map E m n
  rows_alike most h few_a few_b = same_decided slots_total E m n (λ s.
      elim (cases_lt s.row most) [
        | inl less ↦ h s.row s.col less
        | inr more ↦ both_none E _ _ (in_no_row a m e s (omega (arith, few_a, more))) (in_no_row b n f s (omega (arith, few_b, more)))
      ])

  pub rows_differ : (k : ℕ) → false ≡ same_map E (row a k) (row b k) → false ≡ same_map E m n
  rows_differ k other = by_test (same_map E m n) refl
    where
      by_test : (b' : Bool) → same_map E m n ≡ b' → false ≡ b'
      by_test true same = other ∙ alike_get nat_cmp_total E (row a k) (row b k) (λ col.
          sym (λ i. option_eq E (in_slot_of a m e (slot k col) i) (in_slot_of b n f (slot k col) i)) ∙ get_alike slots_total E m n same (slot k col))
      by_test false apart = refl
