-- The cells so far, and those that are left.
use Rattle.std.proofs.Common.{◌≡◌, ◌++◌, filter}
use Rattle.tabled_object.specs.Entities.{cells_of, is_inside}
use Rattle.tabled_correction.proofs.span.cells_inside.Given as goal

abbrev pub invariant-loop-cell : goal.invariant-loop-cell
invariant-loop-cell l =
    goal.iterator-loop-cell.can_next l.cell-iterator ×
    goal.iterator-loop-cell.is_finite l.cell-iterator ×
    l.cells.items ++ filter (is_inside l.shape.0 l.shape.1) l.cell-iterator ≡ filter (is_inside l.shape.0 l.shape.1) (cells_of l.fn.entity l.shape.0 l.shape.1)
