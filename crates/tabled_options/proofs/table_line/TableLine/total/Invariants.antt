-- How many places there are so far.
use Rattle.std.proofs.Common.{◌≡◌, ◌^◌, ◌-◌, min, length}
use Rattle.tabled_printing.specs.LinePieces.{places_before}
use Rattle.tabled_options.specs.Laying.{looked}
use Rattle.tabled_options.proofs.table_line.TableLine.total.Given as goal

abbrev pub invariant-loop-n : goal.invariant-loop-n
invariant-loop-n g l =
    l.total ≡ min (2 ^ 64 - 1) (length (places_before (looked g.D.Dimension.width_of g.D.Dimension.height_of l.self) l.self.line l.n))
