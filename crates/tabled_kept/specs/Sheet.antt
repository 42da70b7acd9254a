-- A sheet of slots: those with small numbers stand in rows, and any other under one number in an ordered map.
use Rattle.std.specs.Prelude.{ℕ, ◌+◌, ◌*◌, ◌/◌, ◌%◌, ◌^◌, ◌&&◌, Bool, nat_lt, if◌then◌else◌, Option, Some, None, List}
use Rattle.std.specs.Ordering.{nat_cmp}
use Rattle.std.specs.FinMap.{FinMap, entries}
use Rattle.tabled_keys.specs.declared.key.Slot.{Slot}
use Rattle.tabled_kept.specs.Slots.{slot_cmp}
use Rattle.tabled_keys.specs.Slots.{slot}
use Rattle.tabled_kept.specs.Table.{table}
use Rattle.tabled_kept.specs.Kept.{all_entries, Parted}

-- whether a slot stands in a row
abbrev pub is_near : Slot → Bool
is_near s = nat_lt s.row 256 && nat_lt s.col 1024

-- the number of a slot that does not: its row above the lower 32 bits, and its place in the row in them
abbrev pub far_number : Slot → Option ℕ
far_number s = if is_near s then None else if nat_lt s.row (2 ^ 30) && nat_lt s.col (2 ^ 32) then Some (s.row * 2 ^ 32 + s.col) else None

-- the slot whose number this is
abbrev pub far_slot : ℕ → Slot
far_slot n = slot (n / 2 ^ 32) (n % 2 ^ 32)

-- the values of both, each under its slot
abbrev pub sheet : {V : Type 0} → FinMap slot_cmp V → List (ℕ × V) → FinMap slot_cmp V
sheet near far = table slot_cmp (all_entries far_slot (table nat_cmp far) (entries near))

-- a slot alone says where its value is
abbrev pub PartedSheet : {V : Type 0} → FinMap slot_cmp V → List (ℕ × V) → Type 0
PartedSheet near far = Parted slot_cmp far_number far_slot (table nat_cmp far) (entries near)
