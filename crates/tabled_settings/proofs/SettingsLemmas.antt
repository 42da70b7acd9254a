-- The settings of cells after events of several kinds.
use Rattle.std.proofs.Common.{◌≡◌, ℕ, Bool, false, Option, Some, None, List, [], ◌∷◌, ◌++◌, map, refl, sym, ap, ◌∙◌, filter_map}
use Rattle.std.specs.List.{cons_option}
use Rattle.tabled_border.specs.Texts.{Texts}
use Rattle.tabled_object.specs.declared.position.Position.{Position}
use Rattle.tabled_settings.specs.declared.alignment.AlignmentHorizontal.{AlignmentHorizontal}
use Rattle.tabled_settings.specs.declared.alignment.AlignmentVertical.{AlignmentVertical}
use Rattle.tabled_settings.specs.declared.indent.Indent.{Indent}
use Rattle.tabled_settings.specs.declared.sides.Sides.{Sides}
use Rattle.tabled_settings.specs.declared.cell_settings.CellSettings.{CellSettings}
use Rattle.tabled_settings.specs.Setting.{EntityEvent, setting}
use Rattle.tabled_settings.specs.Live.{Live, at_first, after_if, after_all, events_left, value_at}
use Rattle.tabled_settings.specs.CellSettings.{SettingEvent, of_alignment_horizontal, of_alignment_vertical, of_trim_horizontal, of_trim_vertical, of_line_alignment, of_justification, of_justification_color, of_padding, of_padding_color, alignment_horizontal_event, alignment_vertical_event, trim_horizontal_event, trim_vertical_event, line_alignment_event, justification_event, justification_color_event, padding_event, padding_color_event, after_event, settings_after, first_settings, settings_left, no_colors}
use Rattle.tabled_settings.specs.Padding.{first_padding}
use Rattle.tabled_settings.proofs.Settling.{value_is_the_setting}
use Rattle.tabled_settings.proofs.Leaving.{by_what_is_left}

-- two lists in a row
pub settings_after-append : (settings : CellSettings) (es fs : List SettingEvent) → settings_after settings (es ++ fs) ≡ settings_after (settings_after settings es) fs
settings_after-append settings [] fs = refl
settings_after-append settings (e ∷ es) fs = settings_after-append (after_event settings e) es fs

-- ---- each setting after its own events

module _ {T : Type 0} (mine : SettingEvent → Option (EntityEvent T)) (of : CellSettings → Live T) (changed : (settings : CellSettings) (event : SettingEvent) → of (after_event settings event) ≡ after_if (of settings) (mine event)) where
  after_own : (settings : CellSettings) (events : List SettingEvent) → of (settings_after settings events) ≡ after_all (of settings) (filter_map mine events)
  after_own settings [] = refl
  after_own settings (event ∷ events) = after_own (after_event settings event) events ∙ ap (λ live. after_all live (filter_map mine events)) (changed settings event) ∙ by_own (mine event)
    where
      by_own : (own : Option (EntityEvent T)) → after_all (after_if (of settings) own) (filter_map mine events) ≡ after_all (of settings) (cons_option own (filter_map mine events))
      by_own None = refl
      by_own (Some e) = refl

  pub own_setting : (default : T) → of first_settings ≡ at_first default → (events : List SettingEvent) (cell : Position) → value_at (of (settings_after first_settings events)) cell ≡ setting (filter_map mine events) default cell
  own_setting default first events cell =
      ap (λ live. value_at live cell) (after_own first_settings events ∙ ap (λ live. after_all live (filter_map mine events)) first)
      ∙ value_is_the_setting cell default (filter_map mine events)

  pub left_alike : (default : T) → of first_settings ≡ at_first default → (events : List SettingEvent) → after_all (at_first default) (events_left (of (settings_after first_settings events))) ≡ of (settings_after first_settings events)
  left_alike default first events =
      let own = after_own first_settings events ∙ ap (λ live. after_all live (filter_map mine events)) first in
      ap (λ live. after_all (at_first default) (events_left live)) own ∙ by_what_is_left default (filter_map mine events) ∙ sym own

-- ---- after the events of one kind

after_alignment_horizontal : (settings : CellSettings) (es : List (EntityEvent AlignmentHorizontal)) → settings_after settings (map of_alignment_horizontal es) ≡ record settings { alignment_horizontal = after_all settings.alignment_horizontal es }
after_alignment_horizontal settings [] = refl
after_alignment_horizontal settings (e ∷ es) = after_alignment_horizontal (after_event settings (of_alignment_horizontal e)) es

after_alignment_vertical : (settings : CellSettings) (es : List (EntityEvent AlignmentVertical)) → settings_after settings (map of_alignment_vertical es) ≡ record settings { alignment_vertical = after_all settings.alignment_vertical es }
after_alignment_vertical settings [] = refl
after_alignment_vertical settings (e ∷ es) = after_alignment_vertical (after_event settings (of_alignment_vertical e)) es

after_trim_horizontal : (settings : CellSettings) (es : List (EntityEvent Bool)) → settings_after settings (map of_trim_horizontal es) ≡ record settings { trim_horizontal = after_all settings.trim_horizontal es }
after_trim_horizontal settings [] = refl
after_trim_horizontal settings (e ∷ es) = after_trim_horizontal (after_event settings (of_trim_horizontal e)) es

after_trim_vertical : (settings : CellSettings) (es : List (EntityEvent Bool)) → settings_after settings (map of_trim_vertical es) ≡ record settings { trim_vertical = after_all settings.trim_vertical es }
after_trim_vertical settings [] = refl
after_trim_vertical settings (e ∷ es) = after_trim_vertical (after_event settings (of_trim_vertical e)) es

after_line_alignment : (settings : CellSettings) (es : List (EntityEvent Bool)) → settings_after settings (map of_line_alignment es) ≡ record settings { line_alignment = after_all settings.line_alignment es }
after_line_alignment settings [] = refl
after_line_alignment settings (e ∷ es) = after_line_alignment (after_event settings (of_line_alignment e)) es

after_justification : (settings : CellSettings) (es : List (EntityEvent ℕ)) → settings_after settings (map of_justification es) ≡ record settings { justification = after_all settings.justification es }
after_justification settings [] = refl
after_justification settings (e ∷ es) = after_justification (after_event settings (of_justification e)) es

after_justification_color : (settings : CellSettings) (es : List (EntityEvent (Option Texts))) → settings_after settings (map of_justification_color es) ≡ record settings { justification_color = after_all settings.justification_color es }
after_justification_color settings [] = refl
after_justification_color settings (e ∷ es) = after_justification_color (after_event settings (of_justification_color e)) es

after_padding : (settings : CellSettings) (es : List (EntityEvent (Sides Indent))) → settings_after settings (map of_padding es) ≡ record settings { padding = after_all settings.padding es }
after_padding settings [] = refl
after_padding settings (e ∷ es) = after_padding (after_event settings (of_padding e)) es

after_padding_color : (settings : CellSettings) (es : List (EntityEvent (Sides (Option Texts)))) → settings_after settings (map of_padding_color es) ≡ record settings { padding_color = after_all settings.padding_color es }
after_padding_color settings [] = refl
after_padding_color settings (e ∷ es) = after_padding_color (after_event settings (of_padding_color e)) es

-- one kind after the others
next : (settings between end : CellSettings) (es fs : List SettingEvent) → settings_after settings es ≡ between → settings_after between fs ≡ end → settings_after settings (es ++ fs) ≡ end
next settings between end es fs first second = settings_after-append settings es fs ∙ ap (λ s. settings_after s fs) first ∙ second

-- what is left of the events of each kind
pub after_left : (settings : CellSettings) → settings_after first_settings (settings_left settings) ≡ record {
  alignment_horizontal = after_all (at_first AlignmentHorizontal.Left) (events_left settings.alignment_horizontal);
  alignment_vertical = after_all (at_first AlignmentVertical.Top) (events_left settings.alignment_vertical);
  trim_horizontal = after_all (at_first false) (events_left settings.trim_horizontal);
  trim_vertical = after_all (at_first false) (events_left settings.trim_vertical);
  line_alignment = after_all (at_first false) (events_left settings.line_alignment);
  justification = after_all (at_first 32) (events_left settings.justification);
  justification_color = after_all (at_first None) (events_left settings.justification_color);
  padding = after_all (at_first first_padding) (events_left settings.padding);
  padding_color = after_all (at_first no_colors) (events_left settings.padding_color);
}
unfolding settings_left
after_left settings =
    let left_0 : CellSettings = first_settings in
    let left_1 : CellSettings = record left_0 { alignment_horizontal = after_all (at_first AlignmentHorizontal.Left) (events_left settings.alignment_horizontal) } in
    let left_2 : CellSettings = record left_1 { alignment_vertical = after_all (at_first AlignmentVertical.Top) (events_left settings.alignment_vertical) } in
    let left_3 : CellSettings = record left_2 { trim_horizontal = after_all (at_first false) (events_left settings.trim_horizontal) } in
    let left_4 : CellSettings = record left_3 { trim_vertical = after_all (at_first false) (events_left settings.trim_vertical) } in
    let left_5 : CellSettings = record left_4 { line_alignment = after_all (at_first false) (events_left settings.line_alignment) } in
    let left_6 : CellSettings = record left_5 { justification = after_all (at_first 32) (events_left settings.justification) } in
    let left_7 : CellSettings = record left_6 { justification_color = after_all (at_first None) (events_left settings.justification_color) } in
    let events_1 : List SettingEvent = map of_alignment_horizontal (events_left settings.alignment_horizontal) in
    let events_2 : List SettingEvent = events_1 ++ map of_alignment_vertical (events_left settings.alignment_vertical) in
    let events_3 : List SettingEvent = events_2 ++ map of_trim_horizontal (events_left settings.trim_horizontal) in
    let events_4 : List SettingEvent = events_3 ++ map of_trim_vertical (events_left settings.trim_vertical) in
    let events_5 : List SettingEvent = events_4 ++ map of_line_alignment (events_left settings.line_alignment) in
    let events_6 : List SettingEvent = events_5 ++ map of_justification (events_left settings.justification) in
    let events_7 : List SettingEvent = events_6 ++ map of_justification_color (events_left settings.justification_color) in
    let events_8 : List SettingEvent = events_7 ++ map of_padding (events_left settings.padding) in
    let left_8 : CellSettings = record left_7 { padding = after_all (at_first first_padding) (events_left settings.padding) } in
    let left_9 : CellSettings = record left_8 { padding_color = after_all (at_first no_colors) (events_left settings.padding_color) } in
    let by_1 = after_alignment_horizontal left_0 (events_left settings.alignment_horizontal) in
    let by_2 = next left_0 left_1 left_2 events_1 (map of_alignment_vertical (events_left settings.alignment_vertical)) by_1 (after_alignment_vertical left_1 (events_left settings.alignment_vertical)) in
    let by_3 = next left_0 left_2 left_3 events_2 (map of_trim_horizontal (events_left settings.trim_horizontal)) by_2 (after_trim_horizontal left_2 (events_left settings.trim_horizontal)) in
    let by_4 = next left_0 left_3 left_4 events_3 (map of_trim_vertical (events_left settings.trim_vertical)) by_3 (after_trim_vertical left_3 (events_left settings.trim_vertical)) in
    let by_5 = next left_0 left_4 left_5 events_4 (map of_line_alignment (events_left settings.line_alignment)) by_4 (after_line_alignment left_4 (events_left settings.line_alignment)) in
    let by_6 = next left_0 left_5 left_6 events_5 (map of_justification (events_left settings.justification)) by_5 (after_justification left_5 (events_left settings.justification)) in
    let by_7 = next left_0 left_6 left_7 events_6 (map of_justification_color (events_left settings.justification_color)) by_6 (after_justification_color left_6 (events_left settings.justification_color)) in
    let by_8 = next left_0 left_7 left_8 events_7 (map of_padding (events_left settings.padding)) by_7 (after_padding left_7 (events_left settings.padding)) in
    next left_0 left_8 left_9 events_8 (map of_padding_color (events_left settings.padding_color)) by_8 (after_padding_color left_8 (events_left settings.padding_color))

-- so after what is left of all events the same is there as after all of them
pub as_by_what_is_left : (events : List SettingEvent) → settings_after first_settings (settings_left (settings_after first_settings events)) ≡ settings_after first_settings events
as_by_what_is_left events = after_left (settings_after first_settings events) ∙ (λ i. record {
  alignment_horizontal = left_alike alignment_horizontal_event (λ s. s.alignment_horizontal) (λ s e. refl) AlignmentHorizontal.Left refl events i;
  alignment_vertical = left_alike alignment_vertical_event (λ s. s.alignment_vertical) (λ s e. refl) AlignmentVertical.Top refl events i;
  trim_horizontal = left_alike trim_horizontal_event (λ s. s.trim_horizontal) (λ s e. refl) false refl events i;
  trim_vertical = left_alike trim_vertical_event (λ s. s.trim_vertical) (λ s e. refl) false refl events i;
  line_alignment = left_alike line_alignment_event (λ s. s.line_alignment) (λ s e. refl) false refl events i;
  justification = left_alike justification_event (λ s. s.justification) (λ s e. refl) 32 refl events i;
  justification_color = left_alike justification_color_event (λ s. s.justification_color) (λ s e. refl) None refl events i;
  padding = left_alike padding_event (λ s. s.padding) (λ s e. refl) first_padding refl events i;
  padding_color = left_alike padding_color_event (λ s. s.padding_color) (λ s e. refl) no_colors refl events i;
})
