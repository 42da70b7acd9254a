-- What is set for a table beside its borders, and what events make of it.
use Rattle.std.specs.Prelude.{Option, Some, None, List, [], ◌∷◌, ◌++◌, map}
use Rattle.std.specs.FinMap.{empty}
use Rattle.tabled_settings.specs.CellSettings as cells
use Rattle.tabled_settings.specs.CellSettings.{SettingEvent}
use Rattle.tabled_layout.specs.declared.table_settings.TableSettings.{TableSettings}
use Rattle.tabled_layout.specs.Margin.{MarginEvent, first_margin, after_margin, margin_left}
use Rattle.tabled_layout.specs.Spans.{SpanEvent, after_span, spans_left}

-- an event: of what is set for cells by entity, of the margin, or of the spans of one direction
pub data TableEvent : Type 0 where
  of_cells : SettingEvent → TableEvent
  of_margin : MarginEvent → TableEvent
  of_column_spans : SpanEvent → TableEvent
  of_row_spans : SpanEvent → TableEvent

-- the event as one of each kind
abbrev pub cell_event : TableEvent → Option SettingEvent
cell_event (of_cells event) = Some event
cell_event _ = None

abbrev pub column_span_event : TableEvent → Option SpanEvent
column_span_event (of_column_spans event) = Some event
column_span_event _ = None

abbrev pub row_span_event : TableEvent → Option SpanEvent
row_span_event (of_row_spans event) = Some event
row_span_event _ = None

-- the settings after an event: those of its own kind are changed, the others stay
abbrev pub after_event : TableSettings → TableEvent → TableSettings
after_event settings (of_cells event) = record settings { cells = cells.after_event settings.cells event }
after_event settings (of_margin event) = record settings { margin = after_margin settings.margin event }
after_event settings (of_column_spans event) = record settings { column_spans = after_span settings.column_spans event }
after_event settings (of_row_spans event) = record settings { row_spans = after_span settings.row_spans event }

-- the settings after a list of events
abbrev pub settings_after : TableSettings → List TableEvent → TableSettings
settings_after settings [] = settings
settings_after settings (event ∷ events) = settings_after (after_event settings event) events

-- before anything is set
abbrev pub first_settings : TableSettings
first_settings = record { cells = cells.first_settings; margin = first_margin; column_spans = empty; row_spans = empty }

-- the events that are left of them all: after these the settings are what they are
unfoldable pub settings_left : TableSettings → List TableEvent
settings_left settings =
    map of_cells (cells.settings_left settings.cells)
    ++ map of_margin (margin_left settings.margin)
    ++ map of_column_spans (spans_left settings.column_spans)
    ++ map of_row_spans (spans_left settings.row_spans)
