-- The correction of crossings where cells span several columns or rows.
use Rattle.std.specs.Prelude.{ℕ, ◌+◌, ◌-◌, min, ◌==◌, ◌&&◌, ◌||◌, not, nat_lt, Bool, if◌then◌else◌, Option, Some, None, is_some, option_map, List, [], ◌∷◌, ◌++◌, map, filter}
use Rattle.std.specs.List.{flat_map, last_or}
use Rattle.std.specs.Option.{option_or}
use Rattle.std.specs.FinMap.{entries}
use Rattle.tabled_object.specs.declared.entity.Entity.TheVariants.{Global}
use Rattle.tabled_object.specs.declared.position.Position.{Position}
use Rattle.tabled_object.specs.Entities.{position, below, cells_of, is_inside}
use Rattle.tabled_places.specs.declared.place.Place.{Place}
use Rattle.tabled_places.specs.declared.borders.Borders.{Borders}
use Rattle.tabled_places.specs.declared.site.Spot.TheVariants.{Crossing}
use Rattle.tabled_places.specs.declared.site.Site.TheVariants.{Cell as at_spot}
use Rattle.tabled_places.specs.declared.event.Written.TheVariants.{Sign as sign}
use Rattle.tabled_places.specs.declared.event.Event.{Event}
use Rattle.tabled_places.specs.declared.event.Event.TheVariants.{Write as write}
use Rattle.tabled_places.specs.State.{state_at}
use Rattle.tabled_places.specs.Value.{plain_value}
use Rattle.tabled_layout.specs.Spans.{SpanMap, SpanEvent, same_position}
use Rattle.tabled_layout.specs.Covering.{covered_by_column_span, covered_by_row_span, covered_by_both_spans}
use Rattle.tabled_configuration.specs.Configuration.{Configuration, ConfigEvent, by_characters}

-- a character for the crossing of a horizontal and a vertical line
abbrev pub Write : Type 0
Write = Position × ℕ

-- what a table shows at its edges and crossings, the offset characters left aside; for an edge `at` is 0
abbrev pub PlaceCharacters : Type 0
PlaceCharacters = Place → Option ℕ

-- the last character that is written at a crossing
abbrev pub last_at : List Write → Position → Option ℕ
last_at writes crossing = option_map (λ entry. entry.1) (last_or None (filter (λ entry. same_position crossing entry.0) writes))

-- the picture after crossings were written
abbrev pub written_over : List Write → PlaceCharacters → PlaceCharacters
written_over writes shown (Place.Cross r c) = option_or (last_at writes (position r c)) (shown (Place.Cross r c))
written_over writes shown place = shown place

-- what a step of the correction is read off: how many rows and columns the table has, its spans, its class record, and what
-- it shows
pub record Spanned : Type 0 where
  pub shape : ℕ × ℕ
  pub columns : SpanMap
  pub rows : SpanMap
  pub class : Borders ℕ
  pub shown : PlaceCharacters

-- a crossing written, where there is a character for it
abbrev pub written_at : ℕ → ℕ → Option ℕ → List Write
written_at r c None = []
written_at r c (Some character) = (position r c, character) ∷ []

-- writes that are made where something holds
abbrev pub where_so : Bool → List Write → List Write
where_so holds writes = if holds then writes else []

-- what becomes of a crossing on a horizontal border of a column span: it joins what stands beyond the span, and what stands
-- at the left of its first column; with neither it is as the edge beside it
unfoldable pub border_crossing : Bool → Bool → (both beyond first edge : Option ℕ) → Option ℕ
border_crossing is_beyond is_first both beyond first edge = if is_beyond then (if is_first then both else beyond) else (if is_first then first else edge)

module _ (table : Spanned) where
  -- whether a cell of the table that no span of its row covers has something at its left: its edge or one of its crossings there
  unfoldable pub has_left : Position → Bool
  has_left cell =
      is_inside table.shape.0 table.shape.1 cell
      && (not (covered_by_column_span table.columns cell || covered_by_both_spans table.columns table.rows cell)
      && (is_some (table.shown (Place.Vertical cell.row cell.col 0)) || (is_some (table.shown (Place.Cross cell.row cell.col)) || is_some (table.shown (Place.Cross (cell.row + 1) cell.col)))))

  -- whether a cell of the table that no span of its column covers has something above it
  unfoldable pub has_top : Position → Bool
  has_top cell =
      is_inside table.shape.0 table.shape.1 cell
      && (not (covered_by_row_span table.rows cell || covered_by_both_spans table.columns table.rows cell)
      && (is_some (table.shown (Place.Horizontal cell.row cell.col 0)) || (is_some (table.shown (Place.Cross cell.row cell.col)) || is_some (table.shown (Place.Cross cell.row (cell.col + 1))))))

  -- whether the cell above has something at its left, and the cell below
  unfoldable pub left_above : Position → Bool
  left_above cell = nat_lt 0 cell.row && has_left (position (cell.row - 1) cell.col)

  unfoldable pub left_below : Position → Bool
  left_below cell = has_left (position (cell.row + 1) cell.col)

  -- whether the cell at the left has something above it, and the cell at the right
  unfoldable pub top_at_left : Position → Bool
  top_at_left cell = nat_lt 0 cell.col && has_top (position cell.row (cell.col - 1))

  unfoldable pub top_at_right : Position → Bool
  top_at_right cell = has_top (position cell.row (cell.col + 1))

  -- ---- the columns of column spans

  -- the crossing at the left end of an edge, where both have a character
  unfoldable pub at_edge : ℕ → ℕ → Option ℕ → List Write
  at_edge r c becomes = where_so (is_some (table.shown (Place.Cross r c)) && is_some (table.shown (Place.Horizontal r c 0))) (written_at r c becomes)

  -- above and below one column of a span; column 0 has no cell at its left
  unfoldable pub column_step : Bool → Position → List Write
  column_step is_first cell =
      where_so (nat_lt 0 cell.col) (
      at_edge cell.row cell.col (border_crossing (left_above cell) is_first table.class.intersection table.class.bottom_intersection table.class.top_intersection (table.shown (Place.Horizontal cell.row cell.col 0)))
      ++ at_edge (cell.row + 1) cell.col (border_crossing (left_below cell) is_first table.class.intersection table.class.top_intersection table.class.bottom_intersection (table.shown (Place.Horizontal (cell.row + 1) cell.col 0)))
      )

  -- column by column, as far as the table goes
  unfoldable pub column_span_step : SpanEvent → List Write
  column_span_step (cell, count) =
      where_so (nat_lt cell.row table.shape.0) (flat_map (λ k. column_step (k == 0) (position cell.row (cell.col + k))) (below (min count (table.shape.1 - cell.col))))

  -- ---- the rows of row spans

  -- at the left and the right of one row of a span but its first
  unfoldable pub row_step : Position → List Write
  row_step cell =
      where_so (is_some (table.shown (Place.Cross cell.row cell.col))) (written_at cell.row cell.col (if top_at_left cell then table.class.right_intersection else table.class.vertical))
      ++ where_so (is_some (table.shown (Place.Cross cell.row (cell.col + 1)))) (written_at cell.row (cell.col + 1) (if top_at_right cell then table.class.left_intersection else table.class.vertical))

  -- row by row, as far as the table goes
  unfoldable pub row_span_step : SpanEvent → List Write
  row_span_step (cell, count) =
      where_so (nat_lt cell.col table.shape.1) (flat_map (λ k. row_step (position (cell.row + 1 + k) cell.col)) (below (min (count - 1) (table.shape.0 - (cell.row + 1)))))

  -- ---- the cells that both spans of a cell cover

  unfoldable pub inner_step : Position → List Write
  inner_step cell =
      where_so (left_above cell && not (top_at_right cell)) (written_at cell.row (cell.col + 1) table.class.right_intersection)
      ++ (where_so (top_at_right cell && not (left_above cell)) (written_at cell.row (cell.col + 1) table.class.left_intersection)
      ++ (where_so (left_below cell) (written_at (cell.row + 1) cell.col table.class.top_intersection)
      ++ where_so (not (left_above cell || (top_at_right cell || left_below cell))) (written_at cell.row (cell.col + 1) table.class.vertical ++ written_at (cell.row + 1) cell.col table.class.bottom)))

  -- ---- the three steps

  -- the column spans, in the order of their positions
  abbrev pub columns_corrected : List Write
  columns_corrected = flat_map column_span_step (entries table.columns)

  -- the row spans
  abbrev pub rows_corrected : List Write
  rows_corrected = flat_map row_span_step (entries table.rows)

  -- the cells of the table that both spans of a cell cover, in row order
  abbrev pub inner_corrected : List Write
  inner_corrected = flat_map inner_step (filter (covered_by_both_spans table.columns table.rows) (cells_of Global table.shape.0 table.shape.1))

-- the table after crossings were written
abbrev pub after_writes : Spanned → List Write → Spanned
after_writes table writes = record table { shown = written_over writes table.shown }

-- the three steps in a row: each is read off the picture that the step before it left
abbrev pub corrected : Spanned → List Write
corrected table =
    let by_columns = columns_corrected table in
    let after_columns = after_writes table by_columns in
    let by_rows = rows_corrected after_columns in
    let after_rows = after_writes after_columns by_rows in
    by_columns ++ (by_rows ++ inner_corrected after_rows)

-- a configuration, as the correction reads it
abbrev pub spanned : ℕ × ℕ → Configuration → Spanned
spanned shape cfg = record {
  shape = shape;
  columns = cfg.settings.column_spans;
  rows = cfg.settings.row_spans;
  class = cfg.characters.class_record;
  shown = plain_value (state_at cfg.characters) shape;
}

-- the characters of the crossings, written in their order
abbrev pub crossing_written : Write → Event ℕ
crossing_written (crossing, character) = write (at_spot (Crossing crossing.row crossing.col)) (sign character)

abbrev pub crossings_written : List Write → List ConfigEvent
crossings_written writes = by_characters (map crossing_written writes)

unfoldable pub correction_events : ℕ × ℕ → Configuration → List ConfigEvent
correction_events shape cfg = crossings_written (corrected (spanned shape cfg))
