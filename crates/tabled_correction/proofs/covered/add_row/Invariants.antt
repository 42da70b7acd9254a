-- The columns so far.
use Rattle.std.proofs.Common.{◌≡◌, ◌≤◌, ◌==◌, ◌&&◌, ◌||◌, nat_lt, nat_le, max}
use Rattle.tabled_object.specs.declared.position.Position.{Position}
use Rattle.tabled_correction.specs.Covered.{has}
use Rattle.tabled_correction.proofs.covered.add_row.Given as goal

abbrev pub invariant-loop-col : goal.invariant-loop-col
invariant-loop-col l =
    (l.fn.cols.start ≤ l.col) × (l.col ≤ max l.fn.cols.start l.fn.cols.end) × ((cell : Position) → has l.cells.keys cell ≡ (has l.initial.cells.keys cell || ((cell.row == l.row) && (nat_le l.fn.cols.start cell.col && nat_lt cell.col l.col))))
