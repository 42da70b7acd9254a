-- The rows so far, with the cells that are shown.
use Rattle.std.proofs.Common.{◌≡◌, take}
use Rattle.tabled_input.specs.Lines.{cells_of}
use Rattle.tabled_input.specs.Selection.{selected}
use Rattle.tabled_input.proofs.selection.columns_of.Given as goal

abbrev pub invariant-loop-row : goal.invariant-loop-row
invariant-loop-row l = cells_of l.shown.items ≡ selected l.columns (cells_of (take l.row-index l.rows))
