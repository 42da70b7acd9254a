-- What the widths so far leave.
use Rattle.std.proofs.Common.{◌≡◌, ◌-◌, take, sum}
use Rattle.tabled_viewing.proofs.captions.are_within.Given as goal

abbrev pub invariant-loop-width : goal.invariant-loop-width
invariant-loop-width l = l.left ≡ l.columns - sum (take l.width-index l.widths)
