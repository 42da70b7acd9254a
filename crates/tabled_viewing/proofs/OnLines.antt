-- A text on a line reads the table as it looks before, where neither spans nor padding are set.
use Rattle.std.proofs.Common.{◌≡◌, ℕ, ◌==◌, ◌&&◌, Bool, true, false, if◌then◌else◌, Option, Some, None, option_map, List, [], ◌∷◌, ◌++◌, length, slice_index, refl, ap, ◌∙◌}
use Rattle.std.specs.FinMap.{len, len-empty}
use Rattle.std.proofs.lemmas.List.Elements.{filter_map-append}
use Rattle.tabled_border.specs.Texts.{Texts}
use Rattle.tabled_object.specs.declared.dimension.FixedDimension.{FixedDimension}
use Rattle.tabled_object.specs.declared.object.rows.Row.{Row}
use Rattle.tabled_places.specs.declared.event.Event.{Event}
use Rattle.tabled_places.specs.declared.event.Event.TheVariants.{Erase as erase}
use Rattle.tabled_places.specs.declared.event.Region.TheVariants.{All as every_site}
use Rattle.tabled_places.specs.declared.place.Place.{Place}
use Rattle.tabled_places.specs.State.{class_record_set}
use Rattle.tabled_color.specs.Shade.{texts_of}
use Rattle.tabled_settings.specs.Padding.{keeps_first_padding}
use Rattle.tabled_layout.specs.TableSettings.{settings_after, first_settings}
use Rattle.tabled_configuration.specs.Configuration.{ConfigEvent, Configuration, Shows, all_writes, setting_event, settings_of, by_characters, by_colors, borders_replaced, horizontal_lines_put, vertical_lines_put, is_sized_by_texts}
use Rattle.tabled_printing.specs.Picture.{Look, look}
use Rattle.tabled_width.specs.Texts.{Table}
use Rattle.tabled_printing.proofs.LookLemmas.{own_look}
use Rattle.tabled_style.specs.declared.ready_style.ReadyStyle.{ReadyStyle}
use Rattle.tabled_style.specs.Named.{shown, ready_applied}
use Rattle.tabled_options.specs.LineText.{Lettering, characters_written, colors_written, places_taken, text_events}
use Rattle.tabled_options.specs.NamedLine.{row_line}
use Rattle.tabled_measure.specs.Cells.{settings_set, leaves_sizes}
use Rattle.tabled_measure.specs.Sizes.{column_count, column_widths, row_heights}
use Rattle.tabled_text.specs.TextTable.{AreRead, Drawing, look_of, widths_with_spans, heights_with_spans}
use Rattle.tabled_text.proofs.SpanLemmas.{spans_shown}
use Rattle.tabled_request.specs.declared.request.Request.{Request}
use Rattle.tabled_viewing.specs.Captions.{has_room, lettering, on_line, written_on_line}
use Rattle.tabled_viewing.specs.View.{draws_above, drawn, has_header_line, titled}

-- events that set nothing beside borders leave sizes as the texts ask
pub leaves : (es : List ConfigEvent) → settings_of es ≡ [] → leaves_sizes es ≡ true
leaves es nothing =
    let none : len (settings_set es).column_spans ≡ 0 = ap (λ es. len (settings_after first_settings es).column_spans) nothing ∙ len-empty _ _ in
    let others : len (settings_set es).row_spans ≡ 0 = ap (λ es. len (settings_after first_settings es).row_spans) nothing ∙ len-empty _ _ in
    let unpadded : keeps_first_padding (settings_set es).cells.padding ≡ true = ap (λ es. keeps_first_padding (settings_after first_settings es).cells.padding) nothing in
    λ i. ((none i == 0) && (others i == 0)) && unpadded i

-- what is written for a text is what it makes of the table as it looks
pub line_read : (before : List ConfigEvent) (drawing : Drawing) (read : FixedDimension) (given : Lettering Row) (text : List ℕ) (line : ℕ)
    → Shows before drawing.config.spanned → settings_of before ≡ [] → AreRead drawing read → given ≡ lettering text line
    → text_events given (look (all_writes drawing.config.spanned) (length drawing.texts, column_count drawing.texts) (slice_index read.widths.items) (slice_index read.heights.items))
    (row_line given.line.index)
    ≡ written_on_line before drawing.texts text line
unfolding written_on_line
line_read before drawing read given text line shows nothing are is =
    let cfg : Configuration = drawing.config.spanned in
    let sized : is_sized_by_texts cfg ≡ true = spans_shown before cfg shows ∙ leaves before nothing in
    let wide : read.widths.items ≡ column_widths drawing.texts =
    are.widths ∙ ap (λ b. if b then column_widths drawing.texts else widths_with_spans cfg.settings (all_writes cfg) drawing.texts) sized in
    let high : read.heights.items ≡ row_heights drawing.texts =
    are.heights ∙ ap (λ b. if b then row_heights drawing.texts else heights_with_spans cfg.settings (all_writes cfg) drawing.texts) sized in
    (λ i. text_events (is i) (look (all_writes cfg) (length drawing.texts, column_count drawing.texts) (slice_index (wide i)) (slice_index (high i))) (row_line (is i).line.index))
    ∙ ap (λ view. text_events (lettering text line) view (row_line line))
    (own_look cfg before (length drawing.texts, column_count drawing.texts) (slice_index (column_widths drawing.texts)) (slice_index (row_heights drawing.texts)) shows)

-- ---- nothing beside borders is set by a style, and by a text on a line

nothing_by_colors : (fs : List (Event Texts)) → settings_of (by_colors fs) ≡ []
nothing_by_colors [] = refl
nothing_by_colors (f ∷ fs) = nothing_by_colors fs

pub nothing_by_both : (es : List (Event ℕ)) (fs : List (Event Texts)) → settings_of (by_characters es ++ by_colors fs) ≡ []
nothing_by_both [] fs = nothing_by_colors fs
nothing_by_both (e ∷ es) fs = nothing_by_both es fs

nothing_applied : (style : ReadyStyle) → settings_of (ready_applied style) ≡ []
unfolding borders_replaced
nothing_applied style =
    nothing_by_both (erase every_site ∷ horizontal_lines_put (shown style).horizontals ++ vertical_lines_put (shown style).verticals ++ class_record_set (shown style).borders)
    (erase every_site ∷ [])

nothing_replaced : (style : ReadyStyle) → settings_of (borders_replaced (shown style).borders [] []) ≡ []
unfolding borders_replaced
nothing_replaced style =
    nothing_by_both (erase every_site ∷ horizontal_lines_put [] ++ vertical_lines_put [] ++ class_record_set (shown style).borders) (erase every_site ∷ [])

pub nothing_drawn : (request : Request) (style : ReadyStyle) (rows : ℕ) → settings_of (drawn request style rows) ≡ []
nothing_drawn request style rows = either (has_header_line request style rows)
  where
    either : (b : Bool) → settings_of (if b then ready_applied style else borders_replaced (shown style).borders [] []) ≡ []
    either true = nothing_applied style
    either false = nothing_replaced style

nothing_written : (before : List ConfigEvent) (table : Table) (text : List ℕ) (line : ℕ) → settings_of (written_on_line before table text line) ≡ []
unfolding written_on_line text_events
nothing_written before table text line =
    let view : Look = look_of before table in
    let taken : List (Place × ℕ) = places_taken (lettering text line) view (row_line line) in
    nothing_by_both (characters_written view.shown taken) (colors_written (option_map texts_of (lettering text line).color) taken)

nothing_on_line : (is_drawn : Bool) (before : List ConfigEvent) (table : Table) (line : ℕ) (text : Option (List ℕ)) → settings_of (on_line is_drawn before table line text) ≡ []
nothing_on_line is_drawn before table line None = refl
nothing_on_line is_drawn before table line (Some text) = either (is_drawn && has_room table text)
  where
    either : (b : Bool) → settings_of (if b then written_on_line before table text line else []) ≡ []
    either true = nothing_written before table text line
    either false = refl

pub nothing_titled : (style : ReadyStyle) (title : Option (List ℕ)) (before : List ConfigEvent) (table : Table) → settings_of before ≡ [] → settings_of (titled style title before table) ≡ []
nothing_titled style title before table nothing =
    filter_map-append setting_event before (on_line (draws_above style) before table 0 title) ∙ (λ i. nothing i ++ nothing_on_line (draws_above style) before table 0 title i)
