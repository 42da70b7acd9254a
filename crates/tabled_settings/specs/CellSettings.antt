-- The settings of the cells of a table, and what events make of them.
use Rattle.std.specs.Prelude.{ℕ, Bool, false, Option, Some, None, List, [], ◌∷◌, ◌++◌, map}
use Rattle.tabled_border.specs.Texts.{Texts}
use Rattle.tabled_settings.specs.declared.alignment.AlignmentHorizontal.{AlignmentHorizontal}
use Rattle.tabled_settings.specs.declared.alignment.AlignmentVertical.{AlignmentVertical}
use Rattle.tabled_settings.specs.declared.indent.Indent.{Indent}
use Rattle.tabled_settings.specs.declared.sides.Sides.{Sides}
use Rattle.tabled_settings.specs.declared.cell_settings.CellSettings.{CellSettings}
use Rattle.tabled_settings.specs.Setting.{EntityEvent}
use Rattle.tabled_settings.specs.Live.{at_first, after_if, events_left}
use Rattle.tabled_settings.specs.Padding.{first_padding}

-- an event of one kind of setting
pub data SettingEvent : Type 0 where
  of_alignment_horizontal : EntityEvent AlignmentHorizontal → SettingEvent
  of_alignment_vertical : EntityEvent AlignmentVertical → SettingEvent
  of_trim_horizontal : EntityEvent Bool → SettingEvent
  of_trim_vertical : EntityEvent Bool → SettingEvent
  of_line_alignment : EntityEvent Bool → SettingEvent
  of_justification : EntityEvent ℕ → SettingEvent
  of_justification_color : EntityEvent (Option Texts) → SettingEvent
  of_padding : EntityEvent (Sides Indent) → SettingEvent
  of_padding_color : EntityEvent (Sides (Option Texts)) → SettingEvent

-- the event as one of each kind
abbrev pub alignment_horizontal_event : SettingEvent → Option (EntityEvent AlignmentHorizontal)
alignment_horizontal_event (of_alignment_horizontal event) = Some event
alignment_horizontal_event _ = None

abbrev pub alignment_vertical_event : SettingEvent → Option (EntityEvent AlignmentVertical)
alignment_vertical_event (of_alignment_vertical event) = Some event
alignment_vertical_event _ = None

abbrev pub trim_horizontal_event : SettingEvent → Option (EntityEvent Bool)
trim_horizontal_event (of_trim_horizontal event) = Some event
trim_horizontal_event _ = None

abbrev pub trim_vertical_event : SettingEvent → Option (EntityEvent Bool)
trim_vertical_event (of_trim_vertical event) = Some event
trim_vertical_event _ = None

abbrev pub line_alignment_event : SettingEvent → Option (EntityEvent Bool)
line_alignment_event (of_line_alignment event) = Some event
line_alignment_event _ = None

abbrev pub justification_event : SettingEvent → Option (EntityEvent ℕ)
justification_event (of_justification event) = Some event
justification_event _ = None

abbrev pub justification_color_event : SettingEvent → Option (EntityEvent (Option Texts))
justification_color_event (of_justification_color event) = Some event
justification_color_event _ = None

abbrev pub padding_event : SettingEvent → Option (EntityEvent (Sides Indent))
padding_event (of_padding event) = Some event
padding_event _ = None

abbrev pub padding_color_event : SettingEvent → Option (EntityEvent (Sides (Option Texts)))
padding_color_event (of_padding_color event) = Some event
padding_color_event _ = None

-- the settings after an event: each is changed by one of its own kind alone
abbrev pub after_event : CellSettings → SettingEvent → CellSettings
after_event settings event = record {
  alignment_horizontal = after_if settings.alignment_horizontal (alignment_horizontal_event event);
  alignment_vertical = after_if settings.alignment_vertical (alignment_vertical_event event);
  trim_horizontal = after_if settings.trim_horizontal (trim_horizontal_event event);
  trim_vertical = after_if settings.trim_vertical (trim_vertical_event event);
  line_alignment = after_if settings.line_alignment (line_alignment_event event);
  justification = after_if settings.justification (justification_event event);
  justification_color = after_if settings.justification_color (justification_color_event event);
  padding = after_if settings.padding (padding_event event);
  padding_color = after_if settings.padding_color (padding_color_event event);
}

-- the settings after a list of events
abbrev pub settings_after : CellSettings → List SettingEvent → CellSettings
settings_after settings [] = settings
settings_after settings (event ∷ events) = settings_after (after_event settings event) events

-- no color on any side
abbrev pub no_colors : Sides (Option Texts)
no_colors = record { left = None; right = None; top = None; bottom = None }

-- what cells have where nothing was set: texts stand at the left and at the top, nothing is trimmed, the lines of a text are
-- aligned as one, beside it stand spaces, one of them on each side is its padding, and nothing has a color
abbrev pub first_settings : CellSettings
first_settings = record {
  alignment_horizontal = at_first AlignmentHorizontal.Left;
  alignment_vertical = at_first AlignmentVertical.Top;
  trim_horizontal = at_first false;
  trim_vertical = at_first false;
  line_alignment = at_first false;
  justification = at_first 32;
  justification_color = at_first None;
  padding = at_first first_padding;
  padding_color = at_first no_colors;
}

-- the events that still count, of all kinds: these alone give the settings
unfoldable pub settings_left : CellSettings → List SettingEvent
settings_left settings =
    map of_alignment_horizontal (events_left settings.alignment_horizontal)
    ++ map of_alignment_vertical (events_left settings.alignment_vertical)
    ++ map of_trim_horizontal (events_left settings.trim_horizontal)
    ++ map of_trim_vertical (events_left settings.trim_vertical)
    ++ map of_line_alignment (events_left settings.line_alignment)
    ++ map of_justification (events_left settings.justification)
    ++ map of_justification_color (events_left settings.justification_color)
    ++ map of_padding (events_left settings.padding)
    ++ map of_padding_color (events_left settings.padding_color)
