-- The places passed so far.
use Rattle.tabled_printing.specs.LinePieces.{places_before}
use Rattle.tabled_options.specs.Laying.{looked}
use Rattle.tabled_options.specs.Passing.{Passed}
use Rattle.tabled_options.proofs.table_line.TableLine.lay.Given as goal

abbrev pub invariant-loop-n : goal.invariant-loop-n
invariant-loop-n g l =
    Passed (places_before (looked g.D.Dimension.width_of g.D.Dimension.height_of l.self) l.self.line l.n) l.fn.pen l.pen
