use Rattle.std.proofs.Common.{◌≡◌, ℕ, ◌<◌, None, slice_index_or}
use Rattle.tabled_kept.proofs.slots.Slots.is_empty.Given as goal

-- the slots so far are empty
abbrev pub invariant-loop-slot : goal.invariant-loop-slot
invariant-loop-slot g l = (k : ℕ) → k < l.slot-index → slice_index_or l.slot-items k None ≡ None
