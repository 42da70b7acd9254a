use Rattle.std.proofs.Common.{◌≡◌, length}
use Rattle.std.specs.Cmp.Lexicographic.{pointwise}
use Rattle.tabled_settings.specs.Slots.{standing}
use Rattle.tabled_settings.specs.Same.{same_event}
use Rattle.tabled_settings.proofs.slots.stand_alike.Given as goal

-- what was passed is alike, so that what is left decides
abbrev pub invariant-loop-event : goal.invariant-loop-event
invariant-loop-event g l = pointwise (same_event g.T.PartialEq.eq) (standing l.left) (standing l.right) ≡ pointwise (same_event g.T.PartialEq.eq) (standing l.these) (standing l.those)

abbrev pub decreases-loop-event : goal.decreases-loop-event
decreases-loop-event g l = length l.left
