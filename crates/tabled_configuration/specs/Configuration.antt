-- What a configuration keeps, and what changes it.
use Rattle.std.specs.Prelude.{◌≡◌, ℕ, Bool, ◌==◌, ◌&&◌, Option, Some, None, List, [], ◌∷◌, ◌++◌, map, flat_map, filter_map}
use Rattle.std.specs.Coded.{Coded, codes}
use Rattle.std.specs.FinMap as finmap
use Rattle.tabled_places.specs.declared.lines.HorizontalLine.{HorizontalLine}
use Rattle.tabled_places.specs.declared.lines.VerticalLine.{VerticalLine}
use Rattle.tabled_places.specs.declared.borders.Borders.{Borders}
use Rattle.tabled_places.specs.declared.writes.Write.{Write}
use Rattle.tabled_places.specs.Event as grid
use Rattle.tabled_places.specs.declared.event.Event.TheVariants.{Erase as erase}
use Rattle.tabled_places.specs.declared.event.Region.TheVariants.{All as every_site, Level as level_sites}
use Rattle.tabled_places.specs.declared.event.Event.{Event}
use Rattle.tabled_places.specs.Writes.{writes_made}
use Rattle.tabled_places.specs.Calls.{default_set, line_set_horizontal, line_set_vertical}
use Rattle.tabled_places.specs.State.{State, state_at, class_record_set, writes_of}
use Rattle.tabled_border.specs.Texts.{Texts}
use Rattle.tabled_settings.specs.CellSettings.{SettingEvent}
use Rattle.tabled_settings.specs.Padding.{keeps_first_padding}
use Rattle.tabled_layout.specs.declared.table_settings.TableSettings.{TableSettings}
use Rattle.tabled_layout.specs.Margin.{MarginEvent}
use Rattle.tabled_layout.specs.Spans.{SpanEvent}
use Rattle.tabled_layout.specs.TableSettings.{TableEvent, of_cells, of_margin, of_column_spans, of_row_spans, settings_after, first_settings, settings_left}
use Rattle.tabled_configuration.specs.CellColors.{CellColorEvent}

-- what a configuration keeps: the border characters, as their codes; the border colors, as their texts; and what is set
-- beside them, for cells by entity, as the margin and as spans
pub record Configuration : Type 0 where
  pub characters : State ℕ
  pub colors : State Texts
  pub settings : TableSettings

-- whether no cell spans several columns or several rows
abbrev pub has_no_spans : Configuration → Bool
has_no_spans cfg = (finmap.len cfg.settings.column_spans == 0) && (finmap.len cfg.settings.row_spans == 0)

-- whether no padding is set: each cell has a column of spaces at its left and at its right, and no line above or below
abbrev pub has_no_padding : Configuration → Bool
has_no_padding cfg = keeps_first_padding cfg.settings.cells.padding

-- whether the columns and rows of a table are as large as its texts alone ask
abbrev pub is_sized_by_texts : Configuration → Bool
is_sized_by_texts cfg = has_no_spans cfg && has_no_padding cfg

-- by this a proof tells two configurations apart
pub configuration_code : Coded Configuration
configuration_code = Prim.hlevel (codes, finmap.code)

-- an event of a configuration: of its border characters, of its border colors, of what is set beside them, or of the colors
-- of cells
pub data ConfigEvent : Type 0 where
  of_characters : Event ℕ → ConfigEvent
  of_colors : Event Texts → ConfigEvent
  of_settings : TableEvent → ConfigEvent
  of_cell_colors : CellColorEvent → ConfigEvent

-- the event as one of each kind
abbrev pub character_event : ConfigEvent → Option (Event ℕ)
character_event (of_characters e) = Some e
character_event _ = None

abbrev pub color_event : ConfigEvent → Option (Event Texts)
color_event (of_colors e) = Some e
color_event _ = None

abbrev pub setting_event : ConfigEvent → Option TableEvent
setting_event (of_settings e) = Some e
setting_event _ = None

abbrev pub cell_color_event : ConfigEvent → Option CellColorEvent
cell_color_event (of_cell_colors e) = Some e
cell_color_event _ = None

-- the events of a list that are of one kind
abbrev pub characters_of : List ConfigEvent → List (Event ℕ)
characters_of es = filter_map character_event es

abbrev pub colors_of : List ConfigEvent → List (Event Texts)
colors_of es = filter_map color_event es

abbrev pub settings_of : List ConfigEvent → List TableEvent
settings_of es = filter_map setting_event es

abbrev pub cell_colors_of : List ConfigEvent → List CellColorEvent
cell_colors_of es = filter_map cell_color_event es

-- the configuration keeps what the events leave; those of the colors of cells are passed over
pub record Shows (es : List ConfigEvent) (cfg : Configuration) : Type 0 where
  pub characters_shown : grid.Shows (characters_of es) (state_at cfg.characters)
  pub colors_shown : grid.Shows (colors_of es) (state_at cfg.colors)
  pub settings_shown : cfg.settings ≡ settings_after first_settings (settings_of es)

-- the new configuration keeps what the events leave where they cover a site, and else what the old one kept; what is set
-- beside the borders is what the events make of it
pub record Changes (es : List ConfigEvent) (old new : Configuration) : Type 0 where
  pub characters_changed : grid.Changes (characters_of es) (state_at old.characters) (state_at new.characters)
  pub colors_changed : grid.Changes (colors_of es) (state_at old.colors) (state_at new.colors)
  pub settings_changed : new.settings ≡ settings_after old.settings (settings_of es)

-- the writes of all that a configuration keeps, and the events that are left of its settings
unfoldable pub all_writes : Configuration → List ConfigEvent
all_writes cfg = map of_characters (writes_of cfg.characters) ++ map of_colors (writes_of cfg.colors) ++ map of_settings (settings_left cfg.settings)

-- events of characters alone, and of colors alone
abbrev pub by_characters : List (Event ℕ) → List ConfigEvent
by_characters es = map of_characters es

abbrev pub by_colors : List (Event Texts) → List ConfigEvent
by_colors es = map of_colors es

-- one event of what is set for cells
abbrev pub by_setting : SettingEvent → List ConfigEvent
by_setting e = of_settings (of_cells e) ∷ []

-- one event of the margin, and one of the spans of either direction
abbrev pub by_margin : MarginEvent → List ConfigEvent
by_margin e = of_settings (of_margin e) ∷ []

abbrev pub by_column_span : SpanEvent → List ConfigEvent
by_column_span e = of_settings (of_column_spans e) ∷ []

abbrev pub by_row_span : SpanEvent → List ConfigEvent
by_row_span e = of_settings (of_row_spans e) ∷ []

-- lists of writes, of characters and of colors
unfoldable pub writes_applied : List (Write ℕ) → List (Write Texts) → List ConfigEvent
writes_applied characters colors = by_characters (writes_made characters) ++ by_colors (writes_made colors)

-- the erasures of every level but the offsets
abbrev pub all_but_offsets : {T : Type 0} → List (Event T)
all_but_offsets = erase (level_sites 0) ∷ erase (level_sites 1) ∷ erase (level_sites 2) ∷ erase (level_sites 3) ∷ erase (level_sites 4) ∷ []

-- the class record set whole
unfoldable pub borders_set : Borders ℕ → List ConfigEvent
borders_set borders = by_characters (class_record_set borders)

-- every border removed: the default, the class record, the custom lines and the cells' characters, but no offset character
unfoldable pub borders_removed : List ConfigEvent
borders_removed = by_characters all_but_offsets

-- custom lines put, each at its index, in the order of a list
unfoldable pub horizontal_lines_put : List (ℕ × HorizontalLine ℕ) → List (Event ℕ)
horizontal_lines_put lines = flat_map (λ line. line_set_horizontal line.0 line.1) lines

unfoldable pub vertical_lines_put : List (ℕ × VerticalLine ℕ) → List (Event ℕ)
vertical_lines_put lines = flat_map (λ line. line_set_vertical line.0 line.1) lines

-- all borders replaced: all sites of all levels are cleared, of characters and of colors; then the custom lines are put,
-- and the class record is set
unfoldable pub borders_replaced : Borders ℕ → List (ℕ × HorizontalLine ℕ) → List (ℕ × VerticalLine ℕ) → List ConfigEvent
borders_replaced borders horizontals verticals =
    by_characters (erase every_site ∷ horizontal_lines_put horizontals ++ vertical_lines_put verticals ++ class_record_set borders)
    ++ by_colors (erase every_site ∷ [])

-- the default color set, and the class colors and the cells' colors erased
abbrev pub default_color_set : Texts → List (Event Texts)
default_color_set color = default_set color ++ (erase (level_sites 1) ∷ []) ++ (erase (level_sites 4) ∷ [])
