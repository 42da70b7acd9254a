-- Slots, and those of numbers, which tell them apart and are small.
use Rattle.std.specs.Prelude.{◌≡◌, ℕ, ◌<◌, ◌^◌, nat_lt, Option, Bool, true, false, if◌then◌else◌, Some, None, refl, unwrap_or}
use Rattle.std.proofs.Common.{ap, sym, arith, tests}
use Rattle.std.proofs.lemmas.Bool.Decides.{nat_tests}
use Rattle.tabled_keys.specs.declared.key.Slot.{Slot}

abbrev pub slot : ℕ → ℕ → Slot
slot row col = record { row = row; col = col }

-- numbers below this one have slots
abbrev pub dense_end : ℕ
dense_end = 256

-- the slot of a number: one of the first row
abbrev pub slot_of_number : ℕ → Option Slot
slot_of_number n = if nat_lt n dense_end then Some (slot 0 n) else None

abbrev pub number_at_slot : Slot → ℕ
number_at_slot s = s.col

same_slots : (d s t : Slot) → Some s ≡ Some t → s ≡ t
same_slots d s t e = ap (λ o. unwrap_or o d) e

pub numbers_back : (n : ℕ) (s : Slot) → slot_of_number n ≡ Some s → number_at_slot s ≡ n
numbers_back n s = by_test (nat_lt n 256)
  where
    by_test : (b : Bool) → (if b then Some (slot 0 n) else None) ≡ Some s → s.col ≡ n
    by_test true e = sym (ap (λ t. t.col) (same_slots s (slot 0 n) s e))
    by_test false e = absurd cc

pub numbers_narrow : (n : ℕ) (s : Slot) → slot_of_number n ≡ Some s → (s.row < 2 ^ 30) × (s.col < 2 ^ 32)
numbers_narrow n s = by_test (nat_lt n 256) (λ h. grind (arith, tests, nat_tests, h))
  where
    by_test : (b : Bool) → (b ≡ true → n < 256) → (if b then Some (slot 0 n) else None) ≡ Some s → (s.row < 2 ^ 30) × (s.col < 2 ^ 32)
    by_test true small e =
        let same = same_slots s (slot 0 n) s e in
        let row : 0 ≡ s.row = ap (λ t. t.row) same in
        let col : n ≡ s.col = ap (λ t. t.col) same in
        (omega (arith, row), omega (arith, col, small refl))
    by_test false small e = absurd cc
