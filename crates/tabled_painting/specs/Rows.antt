-- The cells and rows of a table as its lines are painted.
use Rattle.std.specs.Prelude.{ℕ, List, [], slice_index, slice_index_or}
use Rattle.tabled_cells.specs.Shown.{shown}
use Rattle.tabled_painting.specs.declared.cell_lines.CellLines.{CellLines}
use Rattle.tabled_painting.specs.declared.table_lines.TableLines.{TableLines}
use Rattle.tabled_painting.specs.CellLines.{coloring_of, cell_line}
use Rattle.tabled_painting.specs.Painted.{Painted}
use Rattle.tabled_painting.specs.PaintedTable.{painted_cell, painted_row}
use Rattle.tabled_painting.specs.Viewed.{viewed}

-- line n of a cell as the code has it
abbrev pub line_of : ℕ → CellLines → Painted
line_of n cell = cell_line cell.how (coloring_of cell.colors) cell.width cell.height (shown cell.lines) n

-- a line of a cell of that text
abbrev pub row_cell : TableLines → ℕ → ℕ → List ℕ → ℕ → Painted
row_cell lines r c text k = painted_cell lines.frame.cfg.now.settings.cells lines.colors.now (slice_index lines.frame.dims.now.widths.items c) (slice_index lines.frame.dims.now.heights.items r) text r c k

-- the lines of a row of these texts
abbrev pub row_painted : TableLines → ℕ → List (List ℕ) → List Painted
row_painted lines r texts = painted_row (viewed lines.frame) (λ row c k. row_cell lines row c (slice_index_or texts c []) k) r
