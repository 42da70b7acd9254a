-- How large a table of texts is: its rows and columns, and the width and the height that its cells ask for.
use Rattle.std.specs.Prelude.{◌≡◌, ℕ, ◌+◌, ◌==◌, if◌then◌else◌, Option, Some, None, List, [], ◌∷◌, map, length, slice_index_or}
use Rattle.tabled_object.specs.Entities.{below, position}
use Rattle.tabled_object.specs.declared.dimension.FixedDimension.{FixedDimension}
use Rattle.tabled_settings.specs.declared.cell_settings.CellSettings.{CellSettings}
use Rattle.tabled_settings.specs.declared.indent.Indent.{Indent}
use Rattle.tabled_settings.specs.declared.sides.Sides.{Sides}
use Rattle.tabled_settings.specs.Live.{value_at}
use Rattle.tabled_width.specs.Texts.{Table, pieces, width_of_text}
pub use Rattle.tabled_cells.specs.Placed.{greatest}
pub use Rattle.tabled_numbers.specs.Columns.{cell, column_count}

-- the number of the first row that has more or fewer than `count` cells, where rows are counted from `row`
abbrev pub first_unequal : ℕ → ℕ → Table → Option ℕ
first_unequal columns row [] = None
first_unequal columns row (cells ∷ rows) = if length cells == columns then first_unequal columns (row + 1) rows else Some row

-- the first row of a table that has more or fewer cells than its first
abbrev pub unequal_row : Table → Option ℕ
unequal_row table = first_unequal (column_count table) 0 table

-- how many terminal columns a cell asks for: those of its widest line, and one for a space on each side
unfoldable pub width_asked : List ℕ → ℕ
width_asked text = greatest (map width_of_text (pieces text)) + 2

-- how many lines a cell asks for
abbrev pub height_asked : List ℕ → ℕ
height_asked text = length (pieces text)

-- how many terminal columns and how many lines a cell asks for with a padding: those of its text, and those of the padding
unfoldable pub padded_width : Sides Indent → List ℕ → ℕ
padded_width padding text = padding.left.size + greatest (map width_of_text (pieces text)) + padding.right.size

abbrev pub padded_height : Sides Indent → List ℕ → ℕ
padded_height padding text = padding.top.size + length (pieces text) + padding.bottom.size

-- what the cell of a row and a column asks for then
abbrev pub width_with_padding : CellSettings → Table → ℕ → ℕ → ℕ
width_with_padding settings table r c = padded_width (value_at settings.padding (position r c)) (cell (slice_index_or table r []) c)

abbrev pub height_with_padding : CellSettings → Table → ℕ → ℕ → ℕ
height_with_padding settings table r c = padded_height (value_at settings.padding (position r c)) (cell (slice_index_or table r []) c)

-- how wide a column is where no padding is set: as wide as any of its cells asks for
abbrev pub column_width : Table → ℕ → ℕ
column_width table col = greatest (map (λ row. width_asked (cell row col)) table)

-- how wide each column is
unfoldable pub column_widths : Table → List ℕ
column_widths table = map (column_width table) (below (column_count table))

-- how high a row is: as high as any of its cells asks for
unfoldable pub row_height : List (List ℕ) → ℕ
row_height row = greatest (map height_asked row)

-- how high each row is
abbrev pub row_heights : Table → List ℕ
row_heights table = map row_height table

-- a table has these sizes where no padding is set and no cell spans
pub record AreSizesOf (sizes : FixedDimension) (table : Table) : Type 0 where
  pub widths : sizes.widths.items ≡ column_widths table
  pub heights : sizes.heights.items ≡ row_heights table
