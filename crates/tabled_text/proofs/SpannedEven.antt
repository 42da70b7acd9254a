-- The lines of a table's text are as wide as each other, also where cells span and where padding is set.
use Rattle.std.proofs.Common.{◌≡◌, ◌==◌, ℕ, ◌+◌, ◌<◌, ◌≤◌, true, false, Bool, inl, inr, ⊎_elim, if◌then◌else◌, List, [], length, get_or, refl, sym, ap, subst, ◌∙◌, arith}
use Rattle.std.specs.Prelude.{slice_index}
use Rattle.std.specs.Str.{IsUtf8}
use Rattle.std.specs.List.{list_all, sum_by}
use Rattle.std.proofs.lemmas.Bool.Decides.{nat_tests}
use Rattle.std.proofs.lemmas.List.Splits.{length-slice_split}
use Rattle.std.specs.Cmp.{second_so}
use Rattle.tabled_object.specs.Entities.{below, position}
use Rattle.tabled_places.specs.declared.place.LineOf.{LineOf}
use Rattle.tabled_places.specs.Drawn.{drawn}
use Rattle.tabled_settings.specs.declared.indent.Indent.{Indent}
use Rattle.tabled_settings.specs.declared.sides.Sides.{Sides}
use Rattle.tabled_settings.specs.Live.{value_at}
use Rattle.tabled_settings.proofs.Paddings.{no_padding_at}
use Rattle.tabled_layout.specs.declared.table_settings.TableSettings.{TableSettings}
use Rattle.tabled_configuration.specs.Configuration.{ConfigEvent, characters_of}
use Rattle.tabled_width.specs.Texts.{Table}
use Rattle.tabled_printing.specs.Along.{is_empty}
use Rattle.tabled_printing.specs.Picture.{Look}
use Rattle.tabled_width.specs.Narrow.{IsRectangle, is_narrow}
use Rattle.tabled_printing.specs.Columns.{HasNarrowBorders, is_narrow_write}
use Rattle.tabled_printing.proofs.NarrowLemmas.{borders_narrow}
use Rattle.tabled_width.proofs.Tiles.{Tile}
use Rattle.tabled_rooms.specs.Hosts.{Counts, host}
use Rattle.tabled_rooms.specs.Rooms.{one_if}
use Rattle.tabled_rooms.specs.Sizes.{is_shown}
use Rattle.tabled_rooms.proofs.CellRooms.{wide_enough, some_line}
use Rattle.tabled_cells.specs.Placed.{fill_shown}
use Rattle.tabled_cells.specs.Placements.{placement_at}
use Rattle.tabled_cells.specs.Trimmed.{lines_shown}
use Rattle.tabled_cells.proofs.Fits.{narrow_padding, placed_at_tile, printable_tile, starts_with_spaces}
use Rattle.tabled_painting.specs.Painted.{plain}
use Rattle.tabled_painting.specs.CellLines.{coloring_at}
use Rattle.tabled_painting.specs.PaintedTable.{Cells}
use Rattle.tabled_painting.specs.PaintedSpans.{columns_spanned, rows_spanned, room_wide, room_high, spanned_cells}
use Rattle.tabled_painting.specs.Widths.{text_width}
use Rattle.tabled_painting.proofs.Plain.{plain_cell}
use Rattle.tabled_painting.proofs.SpannedEven.{spanned_even}
use Rattle.tabled_measure.specs.Sizes.{cell, column_count, padded_width, width_with_padding, height_with_padding}
use Rattle.tabled_measure.specs.Changed.{CellsArePrintable}
use Rattle.tabled_measure.specs.Cells.{settings_set, cells_set, margin_set, cell_colors, leaves_sizes, sets_no_padding, sets_no_spans, KeepsApart, StandApart, StartsWithSpace}
use Rattle.tabled_text.specs.TextTable.{look_of, look_with_spans, look_printed, text_of, widths_with_spans, heights_with_spans}
use Rattle.tabled_text.proofs.Even.{some_places, text_even}
use Rattle.tabled_text.proofs.SpanLemmas.{text_spanned}

-- texts of printable ASCII stand apart by themselves
pub printable_apart : (es : List ConfigEvent) (table : Table) → CellsArePrintable table → ((r c : ℕ) → is_narrow (value_at (cells_set es).justification (position r c)) ≡ true) → StandApart es table
printable_apart es table printable narrow r c = inr (printable r c, narrow r c)

-- where no padding is set, each cell is kept apart
pub apart_unset : (es : List ConfigEvent) → sets_no_padding es ≡ true → KeepsApart es
apart_unset es none r c =
    let is = no_padding_at (cells_set es).padding (position r c) none in
    (ap (λ (padding : Sides Indent). padding.left.fill) is, subst (λ (padding : Sides Indent). 1 ≤ padding.left.size) (sym is) (omega arith))

pub stand_apart : (es : List ConfigEvent) (table : Table) → KeepsApart es → StandApart es table
stand_apart es table apart r c = inl (apart r c)

pub apart_alone : (es : List ConfigEvent) → leaves_sizes es ≡ true → KeepsApart es
apart_alone es leaves = apart_unset es (second_so (sets_no_spans es) (sets_no_padding es) leaves)

module _ (es : List ConfigEvent) (table : Table) (utf8 : (r c : ℕ) → IsUtf8 (cell (get_or table r []) c)) (all : list_all is_narrow_write (characters_of es) ≡ true) (apart : StandApart es table) where
  abbrev settings : TableSettings
  settings = settings_set es

  abbrev view : Look
  view = look_with_spans es table

  abbrev columns : Counts
  columns = columns_spanned settings

  abbrev rows : Counts
  rows = rows_spanned settings

  abbrev cells : Cells
  cells = spanned_cells view columns rows settings.cells (cell_colors es) table

  narrow : HasNarrowBorders view
  narrow = borders_narrow es (length table, column_count table) (slice_index (widths_with_spans settings es table)) (slice_index (heights_with_spans settings es table)) all

  some_columns : (r c : ℕ) → 1 ≤ columns r c
  some_columns r c = omega arith

  some_rows : (r c : ℕ) → 1 ≤ rows r c
  some_rows r c = omega arith

  -- each cell that is shown has room for its text and its padding
  room_enough : (r c : ℕ) → r < length table → c < column_count table → host columns rows r c ≡ (r, c)
      → width_with_padding settings.cells table r c ≤ room_wide view columns rows r c
  unfolding widths_with_spans
  room_enough r c within inside own =
      let shown : is_shown (host columns rows r c) r c ≡ true = ap (λ (at : ℕ × ℕ). is_shown at r c) own ∙ itself r c in
      wide_enough columns rows some_columns some_rows (length table, column_count table) (width_with_padding settings.cells table) (λ n. drawn (characters_of es) (column_count table) (LineOf.Vertical n)) r c within inside shown
    where
      itself : (r c : ℕ) → is_shown (r, c) r c ≡ true
      itself r c = grind (arith, nat_tests)

  cells_tiles : (r c n : ℕ) → r < length table → c < column_count table → host columns rows r c ≡ (r, c) → Tile (room_wide view columns rows r c) (plain (cells r c n))
  unfolding placement_at padded_width
  cells_tiles r c n within inside own =
      let how = placement_at settings.cells r c in
      let text : List ℕ = cell (get_or table r []) c in
      let wide : ℕ = room_wide view columns rows r c in
      let high : ℕ = room_high view columns rows r c in
      let room = room_enough r c within inside own in
      subst (Tile wide) (sym (plain_cell how (coloring_at settings.cells (cell_colors es) r c) wide high (lines_shown how text) n))
      (⊎_elim
      (λ (spaced : StartsWithSpace es r c). placed_at_tile how wide high text n (starts_with_spaces settings.cells r c (ap fill_shown spaced.0)) (utf8 r c) room spaced.1)
      (λ printable. printable_tile how wide high text n (narrow_padding settings.cells r c) printable.1 (utf8 r c) printable.0 room)
      (apart r c))

  lines_some : is_empty view.shape ≡ false → 0 < sum_by (λ r. one_if (view.horizontal r) + view.heights r) (below view.shape.0)
  unfolding heights_with_spans
  lines_some some =
      let counts = some_places (length table) (column_count table) some in
      let asked = length-slice_split (λ byte. byte == 10) (cell (get_or table 0 []) 0) in
      some_line columns rows some_columns some_rows (length table, column_count table) (height_with_padding settings.cells table) (λ n. drawn (characters_of es) (length table) (LineOf.Horizontal n)) counts.0 counts.1
      (omega (arith, asked))

  -- each line is as wide as the others where cells span or have padding
  pub spanned_text_even : leaves_sizes es ≡ false → IsRectangle (text_width view (margin_set es)) (text_of es table)
  spanned_text_even some =
      subst (IsRectangle (text_width view (margin_set es))) (sym (text_spanned es table some))
      (spanned_even view narrow columns rows cells some_columns some_rows cells_tiles settings.margin lines_some)

-- and always
pub printed_even : (es : List ConfigEvent) (table : Table) → ((r : ℕ) → r < length table → length (get_or table r []) ≡ column_count table) → ((r c : ℕ) → IsUtf8 (cell (get_or table r []) c))
    → list_all is_narrow_write (characters_of es) ≡ true → StandApart es table → IsRectangle (text_width (look_printed es table) (margin_set es)) (text_of es table)
printed_even es table equal utf8 all apart = by (leaves_sizes es) refl
  where
    by : (leaves : Bool) → leaves_sizes es ≡ leaves → IsRectangle (text_width (if leaves then look_of es table else look_with_spans es table) (margin_set es)) (text_of es table)
    by true is = text_even es table equal utf8 all is
    by false is = spanned_text_even es table utf8 all apart is
