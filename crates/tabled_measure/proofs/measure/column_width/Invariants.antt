-- How wide the rows so far make the column.
use Rattle.std.proofs.Common.{◌≡◌, map, take, string_bytes}
use Rattle.tabled_cells.specs.Placed.{greatest}
use Rattle.tabled_measure.specs.Sizes.{cell, width_asked}
use Rattle.tabled_measure.proofs.measure.column_width.Given as goal

abbrev pub invariant-loop-row : goal.invariant-loop-row
invariant-loop-row l = l.width ≡ greatest (map (λ row. width_asked (cell (map string_bytes row.items) l.col)) (take l.row-index l.rows))
