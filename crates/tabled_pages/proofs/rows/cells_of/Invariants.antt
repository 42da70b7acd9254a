-- The cells that were cut off so far are kept.
use Rattle.std.proofs.Common.{◌≡◌}
use Rattle.tabled_printing.specs.Pieces.{lent}
use Rattle.tabled_pages.proofs.rows.cells_of.Given as goal

abbrev pub invariant-loop-cell : goal.invariant-loop-cell
invariant-loop-cell l = lent l.cells.items ≡ lent l.yielded
