use Rattle.std.proofs.Common.{◌≡◌, ◌≤◌, ◌+◌, ◌-◌, vec_len}
use Rattle.tabled_kept.specs.Slots.{filled}
use Rattle.tabled_kept.proofs.slots.reach.Given as goal

abbrev pub invariant-loop-slots : goal.invariant-loop-slots
invariant-loop-slots g l = (filled l.slots.items ≡ filled l.initial.slots.items) × (vec_len l.initial.slots ≤ vec_len l.slots)

abbrev pub decreases-loop-slots : goal.decreases-loop-slots
decreases-loop-slots g l = l.at + 1 - vec_len l.slots
