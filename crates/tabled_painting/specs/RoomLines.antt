-- The rooms of cells as the code keeps them. Private functions alone cite this.
use Rattle.std.specs.Prelude.{◌≡◌, ℕ, ◌+◌, ◌-◌, ◌<◌, ◌≤◌, ◌==◌, min, Bool, true, false, if◌then◌else◌, Option, Some, None, List, [], ◌++◌, length, map, replicate, slice_index, slice_index_or}
use Rattle.tabled_places.specs.declared.place.LineOf.{LineOf}
use Rattle.tabled_places.specs.declared.site.Direction.{Direction}
use Rattle.tabled_places.specs.declared.site.Direction.TheVariants.{Horizontal, Vertical}
use Rattle.tabled_printing.specs.Picture.{Look}
use Rattle.tabled_width.specs.Texts.{Table}
use Rattle.tabled_rooms.specs.Hosts.{Counts, host}
use Rattle.std.specs.List.{flat_map, range_with_len, sum_by}
use Rattle.tabled_object.specs.Entities.{below}
use Rattle.tabled_rooms.specs.Rooms.{first_line, one_if}
use Rattle.tabled_painting.specs.Pages.{most}
use Rattle.tabled_painting.specs.declared.spans.Spans.{Spans}
use Rattle.tabled_rooms.specs.declared.host.Host.{Host}
use Rattle.tabled_painting.specs.declared.room.Room.{Room}
use Rattle.tabled_painting.specs.declared.table_lines.TableLines.{TableLines}
use Rattle.tabled_painting.specs.Painted.{Painted}
use Rattle.tabled_painting.specs.PaintedTable.{Cells, painted_side}
use Rattle.tabled_painting.specs.PaintedSpans.{columns_spanned, rows_spanned, painted_crossing, painted_edge, room_line, spanned_cells}
use Rattle.tabled_painting.specs.Rows.{line_of, row_cell}
use Rattle.tabled_painting.specs.Viewed.{viewed}

-- the line of a direction and a number
abbrev pub line_in : Direction → ℕ → LineOf
line_in Horizontal n = LineOf.Horizontal n
line_in Vertical n = LineOf.Vertical n

-- what a room shows in a line of the table, where these are counted from the first line of text of row 0
abbrev pub room_shown : Option Room → ℕ → Painted
room_shown None line = []
room_shown (Some room) line = line_of (line - room.first) room.cell

-- whether a room begins in a column of a row, by what is kept of its hosts: in each, where nothing is
abbrev pub begins : List Host → ℕ → Bool
begins kept c = (slice_index_or kept c (record { row = 0; col = c; bottom = 0; right = 0 })).col == c

-- one line of text of a row at a column, by whether a room begins there, and which
abbrev pub begun_piece : Look → ℕ → ℕ → ℕ → ℕ → Bool → Option Room → Painted
begun_piece view r k line c begun room = if begun then painted_side view r k c ++ room_shown room line else []

-- the whole line: the piece at each column, and finally the last side
abbrev pub rooms_between : Look → ℕ → ℕ → ℕ → List Host → List (Option Room) → Option Room → Painted
rooms_between view r k line kept rooms none = flat_map (λ c. begun_piece view r k line c (begins kept c) (slice_index_or rooms c none)) (below view.shape.1) ++ painted_side view r k view.shape.1

-- the lines of text of a row, of which the first one is that line of the table
abbrev pub rooms_row : Look → ℕ → ℕ → List Host → List (Option Room) → Option Room → List Painted
rooms_row view r first kept rooms none = map (λ k. rooms_between view r k (min (first + k) most) kept rooms none) (below (view.heights r))

-- the line above a row at a column, by the host there and the room that begins in that column
abbrev pub crossed_by : Look → ℕ → ℕ → ℕ → Host → Option Room → Painted
crossed_by view r line c kept room =
    if kept.row == r then painted_crossing view r c ++ painted_edge view r c else
    if kept.col == c then painted_crossing view r c ++ room_shown room line else []

-- over how many columns and rows the cells of a table span, and its cells in their rooms
abbrev pub columns_of : TableLines → Counts
columns_of lines = columns_spanned lines.frame.cfg.now.settings

abbrev pub rows_of : TableLines → Counts
rows_of lines = rows_spanned lines.frame.cfg.now.settings

abbrev pub room_cells : TableLines → Table → Cells
room_cells lines table = spanned_cells (viewed lines.frame) (columns_of lines) (rows_of lines) lines.frame.cfg.now.settings.cells lines.colors.now table

-- in the columns stand the cells of row r of these texts
abbrev pub AreRowCells : TableLines → ℕ → List (List ℕ) → List (Option Room) → Type 0
AreRowCells lines r texts kept = (c line : ℕ) (none : Option Room) → c < length texts → room_shown (slice_index_or kept c none) line ≡ row_cell lines r c (slice_index_or texts c []) line

-- rooms that show what others do
pub record ShowTheSame (old new : List (Option Room)) : Type 0 where
  pub count : length new ≡ length old
  pub lines : (c line : ℕ) (none : Option Room) → room_shown (slice_index_or new c none) line ≡ room_shown (slice_index_or old c none) line

-- at these lines rows begin, and these vertical lines are drawn; each column has a width, and each room too
pub record AreSpans (lines : TableLines) (firsts : List ℕ) (sides : List Bool) : Type 0 where
  pub rows_counted : length firsts ≡ lines.frame.shape.0 + 1
  pub are_firsts : (r : ℕ) → r ≤ lines.frame.shape.0 → slice_index firsts r ≡ first_line (viewed lines.frame).heights (viewed lines.frame).horizontal r
  pub high_within : slice_index firsts lines.frame.shape.0 ≤ most
  pub sides_counted : length sides ≡ lines.frame.shape.1 + 1
  pub are_sides : (c : ℕ) → slice_index_or sides c false ≡ (viewed lines.frame).vertical c
  pub widths_counted : length lines.frame.dims.now.widths.items ≡ lines.frame.shape.1
  pub wide_within : sum_by (λ c. one_if (slice_index_or sides c false) + slice_index lines.frame.dims.now.widths.items c) (range_with_len 0 lines.frame.shape.1) ≤ most

-- no cell spans several columns or rows
pub record NoneSpans (lines : TableLines) : Type 0 where
  pub columns : (r c : ℕ) → columns_of lines r c ≡ 1
  pub rows : (r c : ℕ) → rows_of lines r c ≡ 1

-- for so many columns it is kept what is shown: for each where some cell spans, and for none where no cell does
pub record KeepsSpans (lines : TableLines) (firsts : List ℕ) (sides : List Bool) (count : ℕ) : Type 0 where
  pub none : count ≡ 0 → NoneSpans lines
  pub some : 0 < count → AreSpans lines firsts sides
  pub each : 0 < count → count ≡ lines.frame.shape.1

-- no cell, which reaches nowhere
abbrev pub nobody : Host
nobody = record { row = 0; col = 0; bottom = 0; right = 0 }

-- so it is of the spans that were made for a table, where nothing is shown yet
pub record IsSpansOf (lines : TableLines) (spans : Spans) : Type 0 where
  pub keeps : KeepsSpans lines spans.firsts.items spans.sides.items (length spans.hosts.items)
  pub hosts : spans.hosts.items ≡ replicate (length spans.hosts.items) nobody
  pub wides : length spans.wides.items ≡ length spans.hosts.items

-- places for rooms are kept for so many columns: for each, or for none where no hosts are kept and each row is one line high
pub record KeepsRooms (lines : TableLines) (hosts count : ℕ) : Type 0 where
  pub none : count ≡ 0 → hosts ≡ 0
  pub low : count ≡ 0 → (r : ℕ) → r < lines.frame.shape.0 → slice_index lines.frame.dims.now.heights.items r ≡ 1
  pub each : 0 < count → count ≡ lines.frame.shape.1

-- each of the hosts of row r is the cell of its own place, and ends with the row
abbrev pub StandAlone : ℕ → List Host → Type 0
StandAlone r kept = (c : ℕ) (none : Host) → c < length kept → let one = slice_index_or kept c none in (one.row ≡ r) × (one.col ≡ c) × (one.bottom ≡ r + 1)

-- so it is of each cell that is shown in row r
pub record RowAlone (columns rows : Counts) (shape : ℕ × ℕ) (r : ℕ) : Type 0 where
  pub own : (c : ℕ) → c < shape.1 → host columns rows r c ≡ (r, c)
  pub ends : (c : ℕ) → c < shape.1 → min (r + rows r c) shape.0 ≡ r + 1

module _ (view : Look) (columns rows : Counts) (cells : Cells) where
  -- in a column a room is that of the cell of row r that begins there
  abbrev pub IsRoomAt : ℕ → ℕ → Option Room → Type 0
  IsRoomAt r c room = (line : ℕ) → room_shown room line ≡ room_line view columns rows cells (host columns rows r c) line

  -- so are the rooms of all cells that are shown in row r; and of those alone that are shown above it too
  abbrev pub AreRooms : ℕ → List (Option Room) → Type 0
  AreRooms r kept = (c : ℕ) (none : Option Room) → c < length kept → ((host columns rows r c).1 == c) ≡ true → IsRoomAt r c (slice_index_or kept c none)

  abbrev pub AreOpen : ℕ → List (Option Room) → Type 0
  AreOpen r kept =
      (c : ℕ) (none : Option Room) → c < length kept → ((host columns rows r c).0 == r) ≡ false → ((host columns rows r c).1 == c) ≡ true → IsRoomAt r c (slice_index_or kept c none)

  -- in the columns below n the rooms of all cells, in the others of those that are shown above
  abbrev pub AreBegun : ℕ → ℕ → List (Option Room) → Type 0
  AreBegun r n kept =
      (c : ℕ) (none : Option Room) → c < length kept → ((host columns rows r c).1 == c) ≡ true → (n ≤ c → ((host columns rows r c).0 == r) ≡ false) → IsRoomAt r c (slice_index_or kept c none)
