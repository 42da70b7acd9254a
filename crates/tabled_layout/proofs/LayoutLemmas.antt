-- What events make of the settings of a table.
use Rattle.std.proofs.Common.{◌≡◌, Option, Some, None, List, [], ◌∷◌, ◌++◌, map, refl, sym, ap, ◌∙◌, filter_map, unwrap_or}
use Rattle.std.specs.List.{last_or, cons_option}
use Rattle.std.specs.Option.{option_or}
use Rattle.std.specs.FinMap as finmap
use Rattle.tabled_settings.specs.CellSettings as cells
use Rattle.tabled_settings.specs.CellSettings.{SettingEvent}
use Rattle.tabled_settings.proofs.SettingsLemmas as cell
use Rattle.tabled_layout.specs.declared.margin.Margin.{Margin}
use Rattle.tabled_layout.specs.declared.table_settings.TableSettings.{TableSettings}
use Rattle.tabled_layout.specs.Margin.{MarginEvent, of_size, of_offset, of_color, first_margin, after_margin, margin_after, margin_left, size_event, offset_event, color_event}
use Rattle.tabled_layout.specs.Spans.{SpanEvent, spans_after, spans_left}
use Rattle.tabled_layout.specs.TableSettings.{TableEvent, of_cells, of_margin, of_column_spans, of_row_spans, cell_event, column_span_event, row_span_event, after_event, settings_after, first_settings, settings_left}
use Rattle.tabled_layout.proofs.SpanLemmas.{made_by_what_is_left}

-- two lists in a row
pub settings_after-append : (settings : TableSettings) (es fs : List TableEvent) → settings_after settings (es ++ fs) ≡ settings_after (settings_after settings es) fs
settings_after-append settings [] fs = refl
settings_after-append settings (e ∷ es) fs = settings_after-append (after_event settings e) es fs

-- ---- the parts of a margin

module _ {T : Type 0} (mine : MarginEvent → Option T) (of : Margin → T) (changed : (margin : Margin) (event : MarginEvent) → of (after_margin margin event) ≡ unwrap_or (mine event) (of margin)) where
  own_part : (margin : Margin) (before : Option T) (start : T) → of margin ≡ unwrap_or before start → (events : List MarginEvent) → of (margin_after margin events) ≡ unwrap_or (last_or before (filter_map mine events)) start
  own_part margin before start is [] = is
  own_part margin before start is (event ∷ events) =
      own_part (after_margin margin event) (option_or (mine event) before) start (changed margin event ∙ part (mine event) (of margin) before start is) events
      ∙ ap (λ o. unwrap_or o start) (step (mine event) before (filter_map mine events))
    where
      part : (own : Option T) (old : T) (before : Option T) (start : T) → old ≡ unwrap_or before start → unwrap_or own old ≡ unwrap_or (option_or own before) start
      part None old before start is = is
      part (Some value) old before start is = refl

      step : (own before : Option T) (rest : List T) → last_or (option_or own before) rest ≡ last_or before (cons_option own rest)
      step None before rest = refl
      step (Some value) before rest = refl

  pub as_last_set : (events : List MarginEvent) → of (margin_after first_margin events) ≡ unwrap_or (last_or None (filter_map mine events)) (of first_margin)
  as_last_set events = own_part first_margin None (of first_margin) refl events

pub size_changed : (margin : Margin) (event : MarginEvent) → (after_margin margin event).size ≡ unwrap_or (size_event event) margin.size
size_changed margin (of_size size) = refl
size_changed margin (of_offset offset) = refl
size_changed margin (of_color color) = refl

pub offset_changed : (margin : Margin) (event : MarginEvent) → (after_margin margin event).offset ≡ unwrap_or (offset_event event) margin.offset
offset_changed margin (of_size size) = refl
offset_changed margin (of_offset offset) = refl
offset_changed margin (of_color color) = refl

pub color_changed : (margin : Margin) (event : MarginEvent) → (after_margin margin event).color ≡ unwrap_or (color_event event) margin.color
color_changed margin (of_size size) = refl
color_changed margin (of_offset offset) = refl
color_changed margin (of_color color) = refl

-- ---- each kind after its own events

cells_after : (settings : TableSettings) (events : List TableEvent) → (settings_after settings events).cells ≡ cells.settings_after settings.cells (filter_map cell_event events)
cells_after settings [] = refl
cells_after settings (of_cells e ∷ es) = cells_after (after_event settings (of_cells e)) es
cells_after settings (of_margin e ∷ es) = cells_after (after_event settings (of_margin e)) es
cells_after settings (of_column_spans e ∷ es) = cells_after (after_event settings (of_column_spans e)) es
cells_after settings (of_row_spans e ∷ es) = cells_after (after_event settings (of_row_spans e)) es

column_spans_after : (settings : TableSettings) (events : List TableEvent) → (settings_after settings events).column_spans ≡ spans_after settings.column_spans (filter_map column_span_event events)
column_spans_after settings [] = refl
column_spans_after settings (of_cells e ∷ es) = column_spans_after (after_event settings (of_cells e)) es
column_spans_after settings (of_margin e ∷ es) = column_spans_after (after_event settings (of_margin e)) es
column_spans_after settings (of_column_spans e ∷ es) = column_spans_after (after_event settings (of_column_spans e)) es
column_spans_after settings (of_row_spans e ∷ es) = column_spans_after (after_event settings (of_row_spans e)) es

row_spans_after : (settings : TableSettings) (events : List TableEvent) → (settings_after settings events).row_spans ≡ spans_after settings.row_spans (filter_map row_span_event events)
row_spans_after settings [] = refl
row_spans_after settings (of_cells e ∷ es) = row_spans_after (after_event settings (of_cells e)) es
row_spans_after settings (of_margin e ∷ es) = row_spans_after (after_event settings (of_margin e)) es
row_spans_after settings (of_column_spans e ∷ es) = row_spans_after (after_event settings (of_column_spans e)) es
row_spans_after settings (of_row_spans e ∷ es) = row_spans_after (after_event settings (of_row_spans e)) es

-- ---- after the events of one kind

by_cells : (settings : TableSettings) (es : List SettingEvent) → settings_after settings (map of_cells es) ≡ record settings { cells = cells.settings_after settings.cells es }
by_cells settings [] = refl
by_cells settings (e ∷ es) = by_cells (after_event settings (of_cells e)) es

by_margin : (settings : TableSettings) (es : List MarginEvent) → settings_after settings (map of_margin es) ≡ record settings { margin = margin_after settings.margin es }
by_margin settings [] = refl
by_margin settings (e ∷ es) = by_margin (after_event settings (of_margin e)) es

by_column_spans : (settings : TableSettings) (es : List SpanEvent) → settings_after settings (map of_column_spans es) ≡ record settings { column_spans = spans_after settings.column_spans es }
by_column_spans settings [] = refl
by_column_spans settings (e ∷ es) = by_column_spans (after_event settings (of_column_spans e)) es

by_row_spans : (settings : TableSettings) (es : List SpanEvent) → settings_after settings (map of_row_spans es) ≡ record settings { row_spans = spans_after settings.row_spans es }
by_row_spans settings [] = refl
by_row_spans settings (e ∷ es) = by_row_spans (after_event settings (of_row_spans e)) es

-- one kind after the others
next : (settings between end : TableSettings) (es fs : List TableEvent) → settings_after settings es ≡ between → settings_after between fs ≡ end → settings_after settings (es ++ fs) ≡ end
next settings between end es fs first second = settings_after-append settings es fs ∙ ap (λ s. settings_after s fs) first ∙ second

-- what is left of the events of each kind
after_left : (settings : TableSettings) → settings_after first_settings (settings_left settings) ≡ record {
  cells = cells.settings_after cells.first_settings (cells.settings_left settings.cells);
  margin = settings.margin;
  column_spans = spans_after finmap.empty (spans_left settings.column_spans);
  row_spans = spans_after finmap.empty (spans_left settings.row_spans);
}
unfolding settings_left
after_left settings =
    let left_0 : TableSettings = first_settings in
    let left_1 : TableSettings = record left_0 { cells = cells.settings_after cells.first_settings (cells.settings_left settings.cells) } in
    let left_2 : TableSettings = record left_1 { margin = settings.margin } in
    let left_3 : TableSettings = record left_2 { column_spans = spans_after finmap.empty (spans_left settings.column_spans) } in
    let left_4 : TableSettings = record left_3 { row_spans = spans_after finmap.empty (spans_left settings.row_spans) } in
    let events_1 : List TableEvent = map of_cells (cells.settings_left settings.cells) in
    let events_2 : List TableEvent = events_1 ++ map of_margin (margin_left settings.margin) in
    let events_3 : List TableEvent = events_2 ++ map of_column_spans (spans_left settings.column_spans) in
    let by_1 = by_cells left_0 (cells.settings_left settings.cells) in
    let by_2 = next left_0 left_1 left_2 events_1 (map of_margin (margin_left settings.margin)) by_1 (by_margin left_1 (margin_left settings.margin)) in
    let by_3 = next left_0 left_2 left_3 events_2 (map of_column_spans (spans_left settings.column_spans)) by_2 (by_column_spans left_2 (spans_left settings.column_spans)) in
    next left_0 left_3 left_4 events_3 (map of_row_spans (spans_left settings.row_spans)) by_3 (by_row_spans left_3 (spans_left settings.row_spans))

-- so after what is left of all events the same is there as after all of them
pub as_by_what_is_left : (events : List TableEvent) → settings_after first_settings (settings_left (settings_after first_settings events)) ≡ settings_after first_settings events
as_by_what_is_left events = after_left (settings_after first_settings events) ∙ (λ i. record {
  cells = (
      ap (λ all. cells.settings_after cells.first_settings (cells.settings_left all)) (cells_after first_settings events)
      ∙ cell.as_by_what_is_left (filter_map cell_event events) ∙ sym (cells_after first_settings events)) i;
  margin = (settings_after first_settings events).margin;
  column_spans = (
      ap (λ all. spans_after finmap.empty (spans_left all)) (column_spans_after first_settings events)
      ∙ made_by_what_is_left (filter_map column_span_event events) ∙ sym (column_spans_after first_settings events)) i;
  row_spans = (
      ap (λ all. spans_after finmap.empty (spans_left all)) (row_spans_after first_settings events)
      ∙ made_by_what_is_left (filter_map row_span_event events) ∙ sym (row_spans_after first_settings events)) i;
})
