-- The lines so far.
use Rattle.std.proofs.Common.{◌≡◌, map}
use Rattle.tabled_object.specs.Entities.{below}
use Rattle.tabled_painting.proofs.DrawnLemmas.{is_drawn}
use Rattle.tabled_painting.proofs.drawn.lines_drawn.Given as goal

abbrev pub invariant-loop-number : goal.invariant-loop-number
invariant-loop-number l = l.lines.items ≡ map (is_drawn l.cfg l.direction l.count) (below l.number)
