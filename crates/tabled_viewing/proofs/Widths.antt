-- A page without captions and colors is as wide as its table in its style.
use Rattle.std.proofs.Common.{◌≡◌, ℕ, ◌+◌, ◌≤◌, ◌==◌, ◌&&◌, Bool, true, false, nat_le, Option, None, List, [], ◌∷◌, ◌++◌, length, slice_index, refl, sym, ap, subst, ◌∙◌, append-nil, arith}
use Rattle.std.specs.FinMap.{len, len-empty}
use Rattle.std.specs.List.{list_all}
use Rattle.std.proofs.lemmas.Bool.{and_from, and_parts}
use Rattle.std.proofs.lemmas.Bool.Decides.{nat_tests}
use Rattle.std.proofs.lemmas.List.Elements.{filter_map-append}
use Rattle.tabled_border.specs.Texts.{Texts}
use Rattle.tabled_places.specs.declared.event.Event.{Event}
use Rattle.tabled_places.specs.declared.place.LineOf.{LineOf}
use Rattle.tabled_places.specs.Drawn as grid
use Rattle.tabled_places.specs.Event.{replay}
use Rattle.tabled_places.specs.Value.{value}
use Rattle.tabled_settings.specs.Padding.{keeps_first_padding}
use Rattle.tabled_layout.specs.TableSettings.{settings_after, first_settings}
use Rattle.tabled_layout.specs.declared.table_settings.TableSettings.{TableSettings}
use Rattle.tabled_configuration.specs.Configuration.{ConfigEvent, character_event, color_event, setting_event, characters_of, colors_of, settings_of}
use Rattle.tabled_printing.specs.Columns.{WritesNarrow, is_narrow_write}
use Rattle.tabled_printing.specs.Picture.{Look, edge_size}
use Rattle.tabled_width.specs.Texts.{Table, width_of_text}
use Rattle.tabled_painting.specs.Widths.{text_width}
use Rattle.tabled_style.specs.declared.ready_style.ReadyStyle.{ReadyStyle}
use Rattle.tabled_measure.specs.Cells.{margin_set, settings_set, leaves_sizes}
use Rattle.tabled_measure.specs.Sizes.{column_count, column_widths, row_heights}
use Rattle.tabled_text.specs.TextTable.{look_of}
use Rattle.tabled_request.specs.declared.request.Request.{Request}
use Rattle.tabled_request.specs.declared.sides.ColumnSide.{ColumnSide}
use Rattle.tabled_request.specs.declared.sides.ColumnSide.TheVariants as side
use Rattle.tabled_viewing.specs.Colors.{aligned, aligned_column, colored_if}
use Rattle.tabled_viewing.specs.View.{captioned}

-- ---- alignments are no borders, no spans, no padding and no margin

no_characters : (col : ℕ) (sides : List ColumnSide) → characters_of (aligned col sides) ≡ []
unfolding aligned
no_characters col [] = refl
no_characters col (side.Left ∷ sides) = no_characters (col + 1) sides
no_characters col (side.Center ∷ sides) = no_characters (col + 1) sides
no_characters col (side.Right ∷ sides) = no_characters (col + 1) sides

no_colors : (col : ℕ) (sides : List ColumnSide) → colors_of (aligned col sides) ≡ []
unfolding aligned
no_colors col [] = refl
no_colors col (side.Left ∷ sides) = no_colors (col + 1) sides
no_colors col (side.Center ∷ sides) = no_colors (col + 1) sides
no_colors col (side.Right ∷ sides) = no_colors (col + 1) sides

-- what the sizes and the margin are by
record SameSizes (old new : TableSettings) : Type 0 where
  margin : new.margin ≡ old.margin
  columns : new.column_spans ≡ old.column_spans
  rows : new.row_spans ≡ old.row_spans
  padding : new.cells.padding ≡ old.cells.padding

same_sizes : (settings : TableSettings) (col : ℕ) (sides : List ColumnSide) → SameSizes settings (settings_after settings (settings_of (aligned col sides)))
unfolding aligned
same_sizes settings col [] = record { margin = refl; columns = refl; rows = refl; padding = refl }
same_sizes settings col (side.Left ∷ sides) = same_sizes settings (col + 1) sides
same_sizes settings col (side.Center ∷ sides) =
    let rest = same_sizes (settings_after settings (settings_of (aligned_column side.Center col))) (col + 1) sides in
    record { margin = rest.margin; columns = rest.columns; rows = rest.rows; padding = rest.padding }
same_sizes settings col (side.Right ∷ sides) =
    let rest = same_sizes (settings_after settings (settings_of (aligned_column side.Right col))) (col + 1) sides in
    record { margin = rest.margin; columns = rest.columns; rows = rest.rows; padding = rest.padding }

-- how a table looks, by the events of its borders
abbrev look_by : List (Event ℕ) → List (Event Texts) → ℕ × ℕ → (ℕ → ℕ) → (ℕ → ℕ) → Look
look_by characters colors (rows, cols) widths heights = record {
  shape = (rows, cols);
  widths = widths;
  heights = heights;
  horizontal = λ r. grid.drawn characters rows (LineOf.Horizontal r);
  vertical = λ c. grid.drawn characters cols (LineOf.Vertical c);
  shown = λ place. value (replay characters) (rows, cols) (edge_size widths heights place) place;
  color = λ place. value (replay colors) (rows, cols) (edge_size widths heights place) place;
}

module _ (before : List ConfigEvent) (sides : List ColumnSide) where
  abbrev after : List ConfigEvent
  after = before ++ aligned 0 sides

  same_characters : characters_of after ≡ characters_of before
  same_characters = filter_map-append character_event before (aligned 0 sides) ∙ ap (λ es. characters_of before ++ es) (no_characters 0 sides) ∙ append-nil (characters_of before)

  same_colors : colors_of after ≡ colors_of before
  same_colors = filter_map-append color_event before (aligned 0 sides) ∙ ap (λ es. colors_of before ++ es) (no_colors 0 sides) ∙ append-nil (colors_of before)

  only_aligned : settings_of before ≡ [] → settings_of after ≡ settings_of (aligned 0 sides)
  only_aligned nothing = filter_map-append setting_event before (aligned 0 sides) ∙ ap (λ es. es ++ settings_of (aligned 0 sides)) nothing

  sizes : settings_of before ≡ [] → SameSizes first_settings (settings_set after)
  sizes nothing = subst (λ es. SameSizes first_settings (settings_after first_settings es)) (sym (only_aligned nothing)) (same_sizes first_settings 0 sides)

  pub same_width : (table : Table) → settings_of before ≡ [] → text_width (look_of after table) (margin_set after) ≡ text_width (look_of before table) (margin_set before)
  same_width table nothing =
      let margin : margin_set after ≡ margin_set before = (sizes nothing).margin ∙ sym (ap (λ es. (settings_after first_settings es).margin) nothing) in
      λ i. text_width (look_by (same_characters i) (same_colors i) (length table, column_count table) (slice_index (column_widths table)) (slice_index (row_heights table))) (margin i)

  pub after_narrow : WritesNarrow before → WritesNarrow after
  after_narrow narrow = ap (list_all is_narrow_write) same_characters ∙ narrow

  pub after_leaves : settings_of before ≡ [] → leaves_sizes after ≡ true
  after_leaves nothing =
      let none : len (settings_set after).column_spans ≡ 0 = ap len (sizes nothing).columns ∙ len-empty _ _ in
      let others : len (settings_set after).row_spans ≡ 0 = ap len (sizes nothing).rows ∙ len-empty _ _ in
      let unpadded : keeps_first_padding (settings_set after).cells.padding ≡ true = ap keeps_first_padding (sizes nothing).padding in
      λ i. ((none i == 0) && (others i == 0)) && unpadded i

-- ---- all events, where there is no caption and no color

pub plain_events : (request : Request) (style : ReadyStyle) (title footer : Option (List ℕ)) (before : List ConfigEvent) (sides : List ColumnSide) (in_color : Bool) (first second : Table) → title ≡ None → footer ≡ None → in_color ≡ false
    → (captioned style title footer before first ++ aligned 0 sides) ++ colored_if in_color request second ≡ before ++ aligned 0 sides
plain_events request style title footer before sides in_color first second untitled unfooted plain =
    (λ i. (captioned style (untitled i) (unfooted i) before first ++ aligned 0 sides) ++ colored_if (plain i) request second)
    ∙ append-nil (((before ++ []) ++ []) ++ aligned 0 sides) ∙ ap (λ es. es ++ aligned 0 sides) (append-nil (before ++ []) ∙ append-nil before)

-- each line is no wider than asked for, where all are as wide as some less
pub lines_within : (width total : ℕ) (lines : List (List ℕ)) → total ≤ width → list_all (λ line. width_of_text line == total) lines ≡ true → list_all (λ line. nat_le (width_of_text line) width) lines ≡ true
lines_within width total [] most all = refl
lines_within width total (line ∷ lines) most all =
    let parts = and_parts (width_of_text line == total) (list_all (λ line. width_of_text line == total) lines) all in
    let here : nat_le (width_of_text line) width ≡ true = let same = parts.0 in grind (arith, nat_tests, same) in
    and_from (nat_le (width_of_text line) width) _ here (lines_within width total lines most parts.1)
