-- What is left to take back gives what all of it gives.
use Rattle.std.proofs.Common.{◌≡◌, length}
use Rattle.tabled_layout.specs.TakenBack.{taken_back}
use Rattle.tabled_layout.proofs.spans.Spans.take_back.Given as goal

abbrev pub invariant-loop-cell : goal.invariant-loop-cell
invariant-loop-cell l = taken_back l.self l.notes.items ≡ taken_back l.initial.self l.initial.notes.items

abbrev pub decreases-loop-cell : goal.decreases-loop-cell
decreases-loop-cell l = length l.notes.items
