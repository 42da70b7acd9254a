-- Numbers as keys that have no slot, and how they compare.
use Rattle.std.specs.Prelude.{◌≡◌, ℕ, ◌<◌, ◌^◌, nat_eq, Option, Some, None, refl}
use Rattle.std.specs.Ordering.{nat_cmp, eq_by_cmp}
use Rattle.std.specs.Cmp.{unsigned_tied}
use Rattle.std.proofs.Common.{sym}
use Rattle.tabled_keys.specs.declared.key.Slot.{Slot}
use Rattle.tabled_keys.specs.Slots.{number_at_slot}

-- a key that is a number alone has no slot
abbrev pub no_slot : ℕ → Option Slot
no_slot n = None

pub no_slot_back : (n : ℕ) (s : Slot) → no_slot n ≡ Some s → number_at_slot s ≡ n
no_slot_back n s e = absurd cc

pub no_slot_narrow : (n : ℕ) (s : Slot) → no_slot n ≡ Some s → (s.row < 2 ^ 30) × (s.col < 2 ^ 32)
no_slot_narrow n s e = absurd cc

-- the comparisons of numbers agree
pub numbers_as_partial : (n m : ℕ) → Some (nat_cmp n m) ≡ Some (nat_cmp n m)
numbers_as_partial n m = refl

pub numbers_tied : (n m : ℕ) → nat_eq n m ≡ eq_by_cmp nat_cmp n m
numbers_tied n m = sym (unsigned_tied n m)
