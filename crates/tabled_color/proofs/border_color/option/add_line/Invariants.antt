-- The writes so far.
use Rattle.std.proofs.Common.{◌≡◌, ◌++◌}
use Rattle.tabled_places.specs.Writes.{writes_made}
use Rattle.tabled_color.specs.Coloring.{line_colored}
use Rattle.tabled_color.proofs.border_color.option.add_line.Given as goal

abbrev pub invariant-loop-at : goal.invariant-loop-at
invariant-loop-at l = writes_made l.writes.items ≡ writes_made l.initial.writes.items ++ line_colored l.line l.at l.color
