-- The places passed so far.
use Rattle.std.proofs.Common.{map}
use Rattle.tabled_object.specs.Entities.{below}
use Rattle.tabled_printing.specs.LinePieces.{edge_of}
use Rattle.tabled_options.specs.Passing.{Passed}
use Rattle.tabled_options.proofs.table_line.TableLine.lay_edge.Given as goal

abbrev pub invariant-loop-at : goal.invariant-loop-at
invariant-loop-at g l = Passed (map (edge_of l.self.line l.n) (below l.at)) l.fn.pen l.pen
