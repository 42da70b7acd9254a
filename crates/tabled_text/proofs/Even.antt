-- The lines of a table's text are as wide as each other, and its vertical lines stand straight.
use Rattle.std.proofs.Common.{◌≡◌, ◌==◌, ℕ, ◌+◌, ◌<◌, ◌≤◌, zero, suc, true, false, ◌||◌, eqb, List, [], ◌∷◌, map, length, get_or, sym, ap, subst, ◌∙◌, arith, String, string_bytes, Vec}
use Rattle.std.specs.Prelude.{slice_index}
use Rattle.std.specs.Str.{IsUtf8}
use Rattle.std.specs.List.{list_all}
use Rattle.std.proofs.lemmas.Bool.Decides.{nat_tests}
use Rattle.std.proofs.lemmas.List.Splits.{length-slice_split}
use Rattle.std.proofs.lemmas.Str.{IsUtf8-nil, IsUtf8-string_bytes}
use Rattle.std.specs.Cmp.{second_so}
use Rattle.tabled_settings.specs.declared.indent.Indent.{Indent}
use Rattle.tabled_settings.specs.declared.sides.Sides.{Sides}
use Rattle.tabled_configuration.specs.Configuration.{ConfigEvent, characters_of}
use Rattle.tabled_width.specs.Texts.{Table, texts, pieces, width_of_text}
use Rattle.tabled_printing.specs.Along.{is_empty}
use Rattle.tabled_printing.specs.Picture.{Look}
use Rattle.tabled_printing.specs.Columns.{HasNarrowBorders, is_narrow_write}
use Rattle.tabled_printing.proofs.NarrowLemmas.{borders_narrow}
use Rattle.tabled_width.proofs.Tiles.{Tile}
use Rattle.tabled_cells.specs.Placements.{placement_at}
use Rattle.tabled_cells.specs.Trimmed.{lines_shown}
use Rattle.tabled_cells.proofs.Fits.{padding_unset, placed_at_tile, starts_with_spaces}
use Rattle.tabled_painting.specs.Painted.{plain}
use Rattle.tabled_painting.specs.CellLines.{coloring_at}
use Rattle.tabled_painting.specs.PaintedTable.{Cells, painted_cells, painted_table, plain_text}
use Rattle.tabled_painting.specs.Widths.{text_width, StandsStraightIn}
use Rattle.tabled_painting.proofs.Even.{table_even, table_straight}
use Rattle.tabled_painting.proofs.Plain.{plain_cell}
use Rattle.tabled_measure.specs.Sizes.{greatest, cell, column_count, column_widths, row_heights, width_asked}
use Rattle.tabled_measure.specs.Cells.{cells_set, margin_set, cell_colors, leaves_sizes, sets_no_padding, sets_no_spans}
use Rattle.tabled_text.specs.TextTable.{look_of, painted_alone, text_of}
use Rattle.tabled_measure.proofs.Measuring.{column_room, row_room}
use Rattle.tabled_text.proofs.SpanLemmas.{text_without}

-- ---- what cells say is text

utf8_cell : {Z : Type 0} (row : List (String Z)) (c : ℕ) → IsUtf8 (cell (map string_bytes row) c)
utf8_cell [] c = IsUtf8-nil
utf8_cell (text ∷ row) zero = IsUtf8-string_bytes text
utf8_cell (text ∷ row) (suc c) = utf8_cell row c

pub utf8_cells : {Z W : Type 0} (rows : List (Vec (String Z) W)) (r c : ℕ) → IsUtf8 (cell (get_or (texts rows) r []) c)
utf8_cells [] r c = IsUtf8-nil
utf8_cells (row ∷ rows) zero c = utf8_cell row.items c
utf8_cells (row ∷ rows) (suc r) c = utf8_cells rows r c

-- ---- the text

-- a table with places has rows and columns
pub some_places : (n m : ℕ) → (eqb n 0 || eqb m 0) ≡ false → (0 < n) × (0 < m)
some_places n m e = (grind (arith, nat_tests), grind (arith, nat_tests))

module _ (es : List ConfigEvent) (table : Table) (equal : (r : ℕ) → r < length table → length (get_or table r []) ≡ column_count table) (utf8 : (r c : ℕ) → IsUtf8 (cell (get_or table r []) c))
    (all : list_all is_narrow_write (characters_of es) ≡ true) (none : leaves_sizes es ≡ true) where
  abbrev view : Look
  view = look_of es table

  abbrev cells : Cells
  cells = painted_cells (cells_set es) (cell_colors es) (column_widths table) (row_heights table) table

  narrow : HasNarrowBorders view
  narrow = borders_narrow es (length table, column_count table) (slice_index (column_widths table)) (slice_index (row_heights table)) all

  cells_tiles : (r c k : ℕ) → r < length table → c < column_count table → k < slice_index (row_heights table) r → Tile (slice_index (column_widths table) c) (plain (cells r c k))
  unfolding width_asked
  cells_tiles r c k within inside above =
      let how = placement_at (cells_set es) r c in
      let text : List ℕ = cell (get_or table r []) c in
      let unpadded = padding_unset (cells_set es) r c (second_so (sets_no_spans es) (sets_no_padding es) none) in
      subst (Tile (slice_index (column_widths table) c))
      (sym (plain_cell how (coloring_at (cells_set es) (cell_colors es) r c) (slice_index (column_widths table) c) (slice_index (row_heights table) r) (lines_shown how text) k))
      (placed_at_tile how (slice_index (column_widths table) c) (slice_index (row_heights table) r) text k
      (starts_with_spaces (cells_set es) r c (ap (λ (padding : Sides Indent). padding.left.fill) unpadded)) (utf8 r c)
      (subst (λ (padding : Sides Indent). padding.left.size + greatest (map width_of_text (pieces text)) + padding.right.size ≤ slice_index (column_widths table) c) (sym unpadded) (let room = column_room table r c within inside in omega (arith, room)))
      (subst (λ (padding : Sides Indent). 1 ≤ padding.left.size) (sym unpadded) (omega arith)))

  -- the first row of a table with places has a line
  first_high : is_empty view.shape ≡ false → 0 < slice_index (row_heights table) 0
  first_high some =
      let counts = some_places (length table) (column_count table) some in
      let room = row_room table 0 0 counts.0 (let long = equal 0 counts.0 in omega (arith, long, counts.1)) in
      let asked = length-slice_split (λ byte. byte == 10) (cell (get_or table 0 []) 0) in
      omega (arith, room, asked)

  text_is : text_of es table ≡ plain_text (painted_table view (margin_set es) cells)
  unfolding painted_alone
  text_is = text_without es table none

  -- each line is as wide as the others
  pub text_even : list_all (λ line. width_of_text line == text_width view (margin_set es)) (pieces (text_of es table)) ≡ true
  text_even = ap (λ text. list_all (λ line. width_of_text line == text_width view (margin_set es)) (pieces text)) text_is ∙ table_even view (margin_set es) cells narrow cells_tiles first_high

  pub text_straight : is_empty view.shape ≡ false → (c : ℕ) → c ≤ column_count table → view.vertical c ≡ true → StandsStraightIn view (margin_set es) c (pieces (text_of es table))
  text_straight some c inside drawn =
      subst (λ text. StandsStraightIn view (margin_set es) c (pieces text)) (sym text_is) (table_straight view (margin_set es) cells narrow cells_tiles some (first_high some) c inside drawn)
