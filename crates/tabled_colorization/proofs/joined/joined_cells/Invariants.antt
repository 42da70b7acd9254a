-- The cells so far, and those that are left.
use Rattle.std.proofs.Common.{◌≡◌, ◌++◌}
use Rattle.tabled_object.specs.Entities.{cells_of}
use Rattle.tabled_colorization.specs.Joined.{cells_joined}
use Rattle.tabled_colorization.proofs.joined.joined_cells.Given as goal

abbrev pub invariant-loop-cell : goal.invariant-loop-cell
invariant-loop-cell l =
    goal.iterator-loop-cell.can_next l.cell-iterator ×
    goal.iterator-loop-cell.is_finite l.cell-iterator ×
    l.list.items ++ cells_joined l.color l.cfg.cell_colors l.cell-iterator ≡ cells_joined l.fn.color l.fn.cfg.cell_colors (cells_of l.fn.entity l.fn.shape.0 l.fn.shape.1)
