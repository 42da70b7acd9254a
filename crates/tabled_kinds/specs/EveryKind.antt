-- An option of every kind, and what each makes of what stands before it.
use Rattle.std.specs.Prelude.{ℕ, List, [], ◌∷◌, ◌++◌, length, slice_index}
use Rattle.tabled_border.specs.declared.border.Border.{Border}
use Rattle.tabled_object.specs.declared.entity.Entity.TheVariants.{Global, Row, Column, Cell}
use Rattle.tabled_object.specs.Entities.{cells_of}
use Rattle.tabled_settings.specs.Setting.{write_of}
use Rattle.tabled_configuration.specs.Configuration.{ConfigEvent, borders_replaced, all_writes}
use Rattle.tabled_configuration.specs.Colored.{Colored, Changes, by_cell_color}
use Rattle.tabled_changes.specs.EntitiesColored.{entities_colored}
use Rattle.tabled_configuration.specs.Options.{MakesInTurn, table_bordered, entity_bordered, entity_unbordered, table_unbordered}
use Rattle.tabled_printing.specs.Picture.{look}
use Rattle.tabled_width.specs.Texts.{Table}
use Rattle.tabled_color.specs.Shade.{Shade, texts_of}
use Rattle.tabled_color.specs.BorderColors.{border_texts}
use Rattle.tabled_color.specs.Coloring.{entity_colored, table_colored}
use Rattle.tabled_places.specs.declared.borders.Borders.{Borders}
use Rattle.tabled_style.specs.Shown.{StyleShown}
use Rattle.tabled_style.specs.declared.ready_style.ReadyStyle.{ReadyStyle}
use Rattle.tabled_style.specs.Named.{ready_applied}
use Rattle.tabled_theme.specs.Shown.{ThemeShown}
use Rattle.tabled_theme.specs.Events.{theme_applied}
use Rattle.tabled_highlight.specs.Highlighting.{highlight_events}
use Rattle.tabled_colorization.specs.Joined.{cells_joined}
use Rattle.tabled_colorization.specs.Turns.{colorization, exact_colorization}
use Rattle.tabled_settings.specs.declared.sides.Sides.{Sides as Four}
use Rattle.tabled_formatting.specs.Formatting.{Justifying, alignment_set, strategy_set, trim_set, justification_set, padding_given, padding_set}
use Rattle.tabled_formatting.specs.Margins.{margin_colored, margin_given, shadow_set}
use Rattle.tabled_correction.specs.Correction.{correction_events}
use Rattle.tabled_correction.specs.Corners.{joined_corner_events}
use Rattle.tabled_correction.specs.Span.{span_events}
use Rattle.tabled_options.specs.LineChar.{line_char_events}
use Rattle.tabled_options.specs.LineText.{text_events}
use Rattle.tabled_options.specs.NamedLine.{row_line}
use Rattle.tabled_measure.specs.Sizes.{column_count}
use Rattle.tabled_text.specs.TextTable.{widths_read, heights_read}
use Rattle.tabled_kinds.specs.declared.kinds.BorderKinds.{BorderKinds}
use Rattle.tabled_kinds.specs.declared.kinds.LineKinds.{LineKinds}
use Rattle.tabled_kinds.specs.declared.kinds.ColorKinds.{ColorKinds}
use Rattle.tabled_kinds.specs.declared.kinds.TextKinds.{TextKinds}
use Rattle.tabled_kinds.specs.declared.kinds.RoomKinds.{RoomKinds}
use Rattle.tabled_kinds.specs.declared.kinds.OtherBorders.{OtherBorders}
use Rattle.tabled_kinds.specs.declared.kinds.OtherSettings.{OtherSettings}
use Rattle.tabled_kinds.specs.declared.kinds.OtherTargets.{OtherTargets}
use Rattle.tabled_kinds.specs.declared.kinds.Kinds.{Kinds}

-- the events of an option, as a function of what stands before it
abbrev pub Step : Type 0
Step = Colored → List ConfigEvent

-- options that replace all borders
abbrev pub style_options : ThemeShown → StyleShown → ReadyStyle → Borders ℕ → List Step
style_options theme style ready characters =
    (λ before. theme_applied theme)
    ∷ (λ before. borders_replaced style.borders style.horizontals style.verticals)
    ∷ (λ before. ready_applied ready)
    ∷ (λ before. borders_replaced characters [] [])
    ∷ []

-- options that change some of them, on a table of the given numbers of rows and columns
abbrev pub edge_options : Border ℕ → Border ℕ → Border Shade → ℕ × ℕ → List Step
edge_options frame around colors shape =
    (λ before. table_bordered frame before.spanned.characters.class_record)
    ∷ (λ before. entity_bordered around shape (Column 0))
    ∷ (λ before. entity_colored (border_texts colors) shape (Cell 1 1))
    ∷ (λ before. entity_unbordered shape (Cell 0 0))
    ∷ []

-- options for borders
abbrev pub border_options : BorderKinds → ℕ × ℕ → List Step
border_options kinds shape =
    style_options kinds.theme kinds.style kinds.ready kinds.characters ++ edge_options kinds.frame kinds.around kinds.colors shape

-- options for single lines, of which a text reads the sizes too, by what stands before it
abbrev pub line_options : LineKinds → Table → List Step
line_options kinds texts =
    let shape : ℕ × ℕ = (length texts, column_count texts) in
    (λ before. highlight_events shape (Row kinds.outline.target.index ∷ []) kinds.outline.border kinds.outline.diagonal kinds.outline.color)
    ∷ (λ before. text_events kinds.title (look (all_writes before.spanned) shape (slice_index (widths_read before.spanned texts)) (slice_index (heights_read before.spanned texts))) (row_line 0))
    ∷ (λ before. line_char_events kinds.mark shape (Cell 1 0))
    ∷ []

-- options for colors
abbrev pub color_options : ColorKinds → ℕ × ℕ → List Step
color_options kinds shape =
    (λ before. by_cell_color (write_of (Row 0) (texts_of kinds.row)))
    ∷ (λ before. padding_set (λ (color : Shade). color.prefix) (λ (color : Shade). color.suffix) kinds.padding Global)
    ∷ (λ before. entities_colored (colorization kinds.in_turn shape.0 shape.1))
    ∷ (λ before. entities_colored (exact_colorization kinds.exact.colors (Column kinds.exact.target.index ∷ [])))
    ∷ (λ before. margin_colored (λ (color : Shade). color.prefix) (λ (color : Shade). color.suffix) kinds.margin)
    ∷ (λ before. shadow_set kinds.shadow)
    ∷ []

-- options for texts of cells, which read nothing
abbrev pub text_options : TextKinds → List Step
text_options kinds =
    (λ before. alignment_set kinds.alignment Global)
    ∷ (λ before. strategy_set kinds.strategy (Row 0))
    ∷ (λ before. trim_set kinds.trim (Column 1))
    ∷ (λ before. justification_set kinds.justification (Cell 1 0))
    ∷ []

-- options for the margin, for padding, and for the span of the first cell
abbrev pub room_options : RoomKinds → ℕ × ℕ → List Step
room_options kinds shape =
    (λ before. margin_given kinds.margin)
    ∷ (λ before. padding_given kinds.padding Global)
    ∷ (λ before. padding_given kinds.inner (Row 1))
    ∷ (λ before. span_events kinds.span shape (Cell 0 0))
    ∷ []

-- options for borders at their other targets, and the frame of the table removed
abbrev pub other_borders : OtherBorders → ℕ × ℕ → List Step
other_borders kinds shape =
    (λ before. table_colored (border_texts kinds.colors) shape)
    ∷ (λ before. table_bordered kinds.frame before.spanned.characters.class_record)
    ∷ (λ before. entity_bordered kinds.around shape (Row 1))
    ∷ (λ before. table_unbordered shape before.spanned.characters.class_record)
    ∷ []

-- options for cells at their other targets, those that have colors first
abbrev pub other_colors : Shade → Four Shade → Justifying → List Step
other_colors color padding justification =
    (λ before. padding_set (λ (color : Shade). color.prefix) (λ (color : Shade). color.suffix) padding (Row 0))
    ∷ (λ before. justification_set justification Global)
    ∷ (λ before. by_cell_color (write_of Global (texts_of color)))
    ∷ []

-- those that color whole cells, of which the second reads the colors before it
abbrev pub whole_colors : Shade → Shade → ℕ × ℕ → List Step
whole_colors whole joined shape =
    (λ before. entities_colored ((Row 1, texts_of whole) ∷ []))
    ∷ (λ before. entities_colored (cells_joined joined before.cell_colors (cells_of (Column 0) shape.0 shape.1)))
    ∷ []

abbrev pub other_settings : OtherSettings → ℕ × ℕ → List Step
other_settings kinds shape =
    other_colors kinds.color kinds.padding kinds.justification
    ++ (whole_colors kinds.whole kinds.joined shape
    ++ (λ before. alignment_set kinds.alignment (Column 0))
    ∷ (λ before. strategy_set kinds.strategy Global)
    ∷ (λ before. trim_set kinds.trim Global)
    ∷ [])

-- one of each kind, on a table of these texts
abbrev pub first_targets : Kinds → Table → List Step
first_targets kinds texts =
    let shape : ℕ × ℕ = (length texts, column_count texts) in
    border_options kinds.borders shape
    ++ (line_options kinds.lines texts
    ++ (color_options kinds.colors shape
    ++ (text_options kinds.texts
    ++ room_options kinds.rooms shape)))

-- those that have a second target, at that one
abbrev pub other_targets : OtherTargets → ℕ × ℕ → List Step
other_targets others shape = other_borders others.borders shape ++ other_settings others.settings shape

-- all of them, and at last a correction for the spans that are set, and the corners joined
abbrev pub options : Kinds → OtherTargets → Table → List Step
options kinds others texts =
    let shape : ℕ × ℕ = (length texts, column_count texts) in
    first_targets kinds texts
    ++ (other_targets others shape
    ++ (λ before. correction_events shape before.spanned)
    ∷ (λ before. joined_corner_events shape before.spanned)
    ∷ [])

-- options that were applied in a row, each making its events
abbrev pub InTurn : List Step → Colored → Colored → Type 0
InTurn steps old new = (made : List ConfigEvent) × MakesInTurn Changes steps made old new
