-- The rows so far.
use Rattle.std.proofs.Common.{◌≡◌, ◌≤◌, ◌&&◌, ◌||◌, nat_lt, nat_le, max}
use Rattle.tabled_object.specs.declared.position.Position.{Position}
use Rattle.tabled_correction.specs.Covered.{has, is_in}
use Rattle.tabled_correction.proofs.covered.add_rectangle.Given as goal

abbrev pub invariant-loop-row : goal.invariant-loop-row
invariant-loop-row l =
    (l.fn.rows.start ≤ l.row) × (l.row ≤ max l.fn.rows.start l.fn.rows.end) × ((cell : Position) → has l.cells.keys cell ≡ (has l.initial.cells.keys cell || ((nat_le l.fn.rows.start cell.row && nat_lt cell.row l.row) && is_in l.fn.cols cell.col)))
