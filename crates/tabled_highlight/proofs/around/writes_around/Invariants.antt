-- What is written so far, and what is left to be written.
use Rattle.std.proofs.Common.{◌≡◌, ◌++◌, option_copied}
use Rattle.tabled_places.specs.Writes.{writes_made}
use Rattle.tabled_highlight.specs.Outline.{Outlining}
use Rattle.tabled_highlight.specs.Around.{has, written_around_each}
use Rattle.tabled_highlight.proofs.around.writes_around.Given as goal

abbrev pub invariant-loop-pos : goal.invariant-loop-pos
invariant-loop-pos g l =
    let given : Outlining g.row.T.Denot = record { border = l.border; diagonal = option_copied l.diagonal } in
    writes_made l.writes.items ++ written_around_each given (has l.cells.keys) l.pos-iterator ≡ written_around_each given (has l.cells.keys) l.cells.keys
