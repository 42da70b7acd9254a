-- The picture of a table with its colors.
use Rattle.std.specs.Prelude.{ℕ, if◌then◌else◌, Option, Some, None, List, [], ◌∷◌, ◌++◌, map, length, slice_index, slice_index_or}
use Rattle.std.specs.List.{flat_map, join_with_byte}
use Rattle.tabled_border.specs.Texts.{Texts}
use Rattle.tabled_object.specs.Entities.{below}
use Rattle.tabled_places.specs.declared.place.Place.{Place}
use Rattle.tabled_places.specs.declared.place.LineOf.{LineOf}
use Rattle.tabled_settings.specs.declared.cell_settings.CellSettings.{CellSettings}
use Rattle.tabled_settings.specs.Live.{Live}
use Rattle.tabled_layout.specs.declared.margin.Margin.{Margin}
use Rattle.tabled_printing.specs.Along.{is_empty}
use Rattle.tabled_width.specs.Texts.{Table}
use Rattle.tabled_printing.specs.Picture.{Look, Shown, text_shown, mark_at, marks_along}
use Rattle.tabled_cells.specs.Placements.{placement_at}
use Rattle.tabled_cells.specs.Trimmed.{lines_shown}
use Rattle.tabled_painting.specs.Painted.{Painted, paint, plain}
use Rattle.tabled_painting.specs.InColor.{in_color}
use Rattle.tabled_painting.specs.CellLines.{coloring_at, cell_line}
use Rattle.tabled_painting.specs.Margin.{in_margin}

-- what a place shows, painted: its character in its color, a space for none
abbrev pub painted_mark : Shown → Painted
painted_mark mark = paint mark.1 (text_shown (mark.0 ∷ []))

abbrev pub painted_marks : List Shown → Painted
painted_marks marks = flat_map painted_mark marks

-- what a vertical line shows, painted, if there is something
abbrev pub side_painted : Option Shown → Painted
side_painted None = []
side_painted (Some mark) = painted_mark mark

-- the lines of each cell of a table, by its row, its column and the number of the line
abbrev pub Cells : Type 0
Cells = ℕ → ℕ → ℕ → Painted

-- line k of a cell: its text, by what is set for it and by its colors, in a column and a row of that width and height
abbrev pub painted_cell : CellSettings → Option (Live Texts) → ℕ → ℕ → List ℕ → Cells
painted_cell settings colors width height text r c k =
    let how = placement_at settings r c in
    cell_line how (coloring_at settings colors r c) width height (lines_shown how text) k

-- each cell of a table of texts, by what is set for cells and by their colors, in columns and rows of these sizes
abbrev pub painted_cells : CellSettings → Option (Live Texts) → List ℕ → List ℕ → Table → Cells
painted_cells settings colors widths heights table r c k =
    painted_cell settings colors (slice_index widths c) (slice_index heights r) (slice_index_or (slice_index_or table r []) c []) r c k

module _ (view : Look) where
  -- what vertical line c shows at one line of text of row r, if the line is drawn
  abbrev pub painted_side : ℕ → ℕ → ℕ → Painted
  painted_side r k c = if view.vertical c then painted_mark (mark_at view (Place.Vertical r c k)) else []

  -- one line of text of a row: the side before each cell, and finally the last side
  abbrev pub painted_between : ℕ → ℕ → (ℕ → Painted) → Painted
  painted_between r k cell = flat_map (λ c. painted_side r k c ++ cell c) (below view.shape.1) ++ painted_side r k view.shape.1

  -- horizontal line r, if it is drawn
  abbrev pub painted_if_drawn : ℕ → List Painted
  painted_if_drawn r = if view.horizontal r then painted_marks (marks_along view (LineOf.Horizontal r)) ∷ [] else []

  -- a row as lines of text
  abbrev pub painted_row : Cells → ℕ → List Painted
  painted_row cells r = map (λ k. painted_between r k (λ c. cells r c k)) (below (view.heights r))

  -- the lines of a table that has places, from top to bottom: for each row the line above it and its own lines, and finally the last line
  unfoldable pub painted_lines : Cells → List Painted
  painted_lines cells = flat_map (λ r. painted_if_drawn r ++ painted_row cells r) (below view.shape.0) ++ painted_if_drawn view.shape.0

  -- the lines of a table with its margin: the table is as long as a horizontal line has places, drawn or not. A table without
  -- places has no lines
  abbrev pub with_margin : Margin → List Painted → List Painted
  with_margin margin lines = if is_empty view.shape then [] else in_margin margin (length (marks_along view (LineOf.Horizontal 0))) lines

  unfoldable pub painted_table : Margin → Cells → List Painted
  painted_table margin cells = with_margin margin (painted_lines cells)

-- painted lines as a text: without colors, and with them
unfoldable pub plain_text : List Painted → List ℕ
plain_text lines = join_with_byte 10 (map plain lines)

unfoldable pub colored_text : List Painted → List ℕ
colored_text lines = join_with_byte 10 (map in_color lines)
