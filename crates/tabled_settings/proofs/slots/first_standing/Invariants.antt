use Rattle.std.proofs.Common.{◌≡◌, ◌≤◌, length}
use Rattle.tabled_settings.specs.Slots.{standing}
use Rattle.tabled_settings.proofs.slots.first_standing.Given as goal

-- holes alone were passed
abbrev pub invariant-loop-slot : goal.invariant-loop-slot
invariant-loop-slot g l = (standing l.left ≡ standing l.slots) × (length l.left ≤ length l.slots)

abbrev pub decreases-loop-slot : goal.decreases-loop-slot
decreases-loop-slot g l = length l.left
