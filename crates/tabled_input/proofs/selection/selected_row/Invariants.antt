-- The cells of the columns so far.
use Rattle.std.proofs.Common.{◌≡◌, map, take}
use Rattle.tabled_input.specs.Selection.{selected_row}
use Rattle.tabled_input.proofs.selection.selected_row.Given as goal

abbrev pub invariant-loop-col : goal.invariant-loop-col
invariant-loop-col l = map (λ cell. cell.now) l.cells.items ≡ selected_row (take l.col-index l.columns) (map (λ cell. cell.now) l.row)
