-- Slots and tables of slots as finite maps: of what stands in them, empty slots left out.
use Rattle.std.specs.Prelude.{ℕ, suc, List, [], ◌∷◌, ◌++◌, map, Option, Some, None}
use Rattle.std.specs.Ordering.{nat_cmp}
use Rattle.std.specs.Cmp.{IsTotalOrder}
use Rattle.std.specs.FinMap.{FinMap, from_entries, entries}
use Rattle.std.specs.declared.cmp.Ordering.{Ordering}
use Rattle.tabled_keys.specs.declared.key.Slot.{Slot}
use Rattle.tabled_keys.specs.Slots.{slot}
use Rattle.tabled_keys.specs.contracts.key.SlotOrd.TheImpl.{cmp-value}
use Rattle.tabled_keys.specs.contracts.key.SlotOrd.TheImpl.Laws as law

-- the values in a list of slots, each under the number of its slot, where the first slot has the given number
abbrev pub numbered : {V : Type 0} → ℕ → List (Option V) → List (ℕ × V)
numbered n [] = []
numbered n (None ∷ slots) = numbered (suc n) slots
numbered n (Some value ∷ slots) = (n, value) ∷ numbered (suc n) slots

-- the values in slots with the numbers from 0 on
unfoldable pub filled : {V : Type 0} → List (Option V) → FinMap nat_cmp V
filled slots = from_entries (numbered 0 slots)

-- as slots are ordered: by their row, and then by their number in it
abbrev pub slot_cmp : Slot → Slot → Ordering
slot_cmp = cmp-value.it

pub slots_total : IsTotalOrder slot_cmp
slots_total = law.total-law

-- the values of one row, each under its slot
abbrev pub in_row : {V : Type 0} → ℕ → List (ℕ × V) → List (Slot × V)
in_row row values = map (λ value. (slot row value.0, value.1)) values

-- the values of rows, where the first row has the given number
abbrev pub rows_from : {V : Type 0} → ℕ → List (FinMap nat_cmp V) → List (Slot × V)
rows_from n [] = []
rows_from n (row ∷ rows) = in_row n (entries row) ++ rows_from (suc n) rows

-- the values in rows with the numbers from 0 on
unfoldable pub in_rows : {V : Type 0} → List (FinMap nat_cmp V) → FinMap slot_cmp V
in_rows rows = from_entries (rows_from 0 rows)
