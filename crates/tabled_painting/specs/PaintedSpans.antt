-- The picture of a table: a cell that is shown over several columns and rows has the room of all of them, with the lines between these;
-- each other has that of its own column and row.
use Rattle.std.specs.Prelude.{ℕ, ◌+◌, ◌-◌, ◌==◌, min, max, if◌then◌else◌, unwrap_or, Option, List, [], ◌∷◌, ◌++◌, map, slice_index, slice_index_or}
use Rattle.std.specs.FinMap.{get}
use Rattle.std.specs.List.{flat_map}
use Rattle.tabled_border.specs.Texts.{Texts}
use Rattle.tabled_object.specs.Entities.{below, position}
use Rattle.tabled_places.specs.declared.place.Place.{Place}
use Rattle.tabled_settings.specs.declared.cell_settings.CellSettings.{CellSettings}
use Rattle.tabled_settings.specs.Live.{Live}
use Rattle.tabled_layout.specs.declared.margin.Margin.{Margin}
use Rattle.tabled_layout.specs.declared.table_settings.TableSettings.{TableSettings}
use Rattle.tabled_configuration.specs.Colored.{Colored}
use Rattle.tabled_configuration.specs.Configuration.{all_writes}
use Rattle.tabled_printing.specs.Along.{crossing_at}
use Rattle.tabled_width.specs.Texts.{Table}
use Rattle.tabled_printing.specs.Picture.{Look, look, mark_at}
use Rattle.tabled_rooms.specs.Hosts.{Cell, Counts, host}
use Rattle.tabled_rooms.specs.Rooms as rooms
use Rattle.tabled_painting.specs.Painted.{Painted}
use Rattle.tabled_painting.specs.PaintedTable.{Cells, painted_marks, painted_cell, painted_side, painted_if_drawn, with_margin}

-- over how many columns, and over how many rows, each cell spans: its own alone where nothing is set
abbrev pub columns_spanned : TableSettings → Counts
columns_spanned settings r c = max (unwrap_or (get settings.column_spans (position r c)) 1) 1

abbrev pub rows_spanned : TableSettings → Counts
rows_spanned settings r c = max (unwrap_or (get settings.row_spans (position r c)) 1) 1

module _ (view : Look) where
  -- of horizontal line r: its crossing with vertical line c, if that is drawn, and its edge over column c
  abbrev pub painted_crossing : ℕ → ℕ → Painted
  painted_crossing r c = painted_marks (map (mark_at view) (crossing_at view.vertical (Place.Cross r) c))

  abbrev pub painted_edge : ℕ → ℕ → Painted
  painted_edge r c = painted_marks (map (mark_at view) (map (Place.Horizontal r c) (below (view.widths c))))

module _ (view : Look) (columns rows : Counts) where
  -- which cell is shown at a place
  abbrev pub shown_at : ℕ → ℕ → Cell
  shown_at = host columns rows

  -- how many lines of the table stand above the first line of text of row r, but the one above all rows
  abbrev pub lines_above : ℕ → ℕ
  lines_above = rooms.first_line view.heights view.horizontal

  -- how wide and how high the room is of the cell of row r and column c, where it is shown from there on
  abbrev pub room_wide : ℕ → ℕ → ℕ
  room_wide r c = rooms.room_width view.widths view.vertical (shown_at r) view.shape.1 c

  abbrev pub room_high : ℕ → ℕ → ℕ
  room_high r c = rooms.room_height view.heights view.horizontal r (min (r + rows r c) view.shape.0)

  module _ (cells : Cells) where
    -- what a cell shows in line n of the table, where these are counted from the first line of text of row 0
    abbrev pub room_line : Cell → ℕ → Painted
    room_line cell n = cells cell.0 cell.1 (n - lines_above cell.0)

    -- one line of text of a row at column c: the side before it and the cell that is shown from there on, where one is
    abbrev pub spanned_piece : ℕ → ℕ → ℕ → Painted
    spanned_piece r k c =
        let cell = shown_at r c in
        if cell.1 == c then painted_side view r k c ++ room_line cell (lines_above r + k) else []

    -- the whole line: the piece at each column, and finally the last side
    abbrev pub spanned_between : ℕ → ℕ → Painted
    spanned_between r k = flat_map (spanned_piece r k) (below view.shape.1) ++ painted_side view r k view.shape.1

    -- the line above row r at column c: its crossing and its edge; or, where a cell that is shown above reaches over it, its crossing
    -- and that cell, if it is shown from this column on
    abbrev pub crossed_piece : ℕ → ℕ → Painted
    crossed_piece r c =
        let cell = shown_at r c in
        if cell.0 == r then painted_crossing view r c ++ painted_edge view r c else
        if cell.1 == c then painted_crossing view r c ++ room_line cell (lines_above r - 1) else []

    -- the whole line: the piece at each column, and finally the last crossing
    abbrev pub spanned_across : ℕ → Painted
    spanned_across r = flat_map (crossed_piece r) (below view.shape.1) ++ painted_crossing view r view.shape.1

    abbrev pub spanned_if_drawn : ℕ → List Painted
    spanned_if_drawn r = if view.horizontal r then spanned_across r ∷ [] else []

    -- a row as lines of text
    abbrev pub spanned_row : ℕ → List Painted
    spanned_row r = map (spanned_between r) (below (view.heights r))

    -- the lines of a table that has places, from top to bottom; over the last one nothing reaches
    unfoldable pub spanned_lines : List Painted
    spanned_lines = flat_map (λ r. spanned_if_drawn r ++ spanned_row r) (below view.shape.0) ++ painted_if_drawn view view.shape.0

    -- the same with its margin
    unfoldable pub spanned_table : Margin → List Painted
    spanned_table margin = with_margin view margin spanned_lines

  -- the cells of a table of texts, each in its room, by what is set for cells and by their colors
  abbrev pub spanned_cells : CellSettings → Option (Live Texts) → Table → Cells
  spanned_cells settings colors table r c k = painted_cell settings colors (room_wide r c) (room_high r c) (slice_index_or (slice_index_or table r []) c []) r c k

-- a table of texts, as it looks, by what is set for it
abbrev pub painted_as_set : Look → TableSettings → Option (Live Texts) → Table → List Painted
painted_as_set view settings colors table =
    let columns = columns_spanned settings in
    let rows = rows_spanned settings in
    spanned_table view columns rows (spanned_cells view columns rows settings.cells colors table) settings.margin

-- that of a configuration, of that shape, with columns and rows of these sizes
abbrev pub painted_by : Colored → ℕ × ℕ → List ℕ → List ℕ → Table → List Painted
painted_by cfg shape widths heights table =
    painted_as_set (look (all_writes cfg.spanned) shape (slice_index widths) (slice_index heights)) cfg.spanned.settings cfg.cell_colors table
