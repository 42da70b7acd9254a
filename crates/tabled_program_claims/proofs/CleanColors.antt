-- Colors write no character.
use Rattle.std.proofs.Common.{◌≡◌, Bool, true, false, if◌then◌else◌, Option, Some, None, List, [], ◌∷◌, ◌++◌, length, refl}
use Rattle.std.specs.List.{flat_map, list_all}
use Rattle.tabled_border.specs.Texts.{Texts}
use Rattle.tabled_border.specs.declared.border.Border.{Border}
use Rattle.tabled_object.specs.declared.entity.Entity.{Entity}
use Rattle.tabled_object.specs.declared.entity.Entity.TheVariants.{Global}
use Rattle.tabled_object.specs.Listing.{first_row}
use Rattle.tabled_places.specs.declared.event.Event.{Event}
use Rattle.tabled_places.specs.Calls.{entity_border_set}
use Rattle.tabled_settings.specs.Setting.{write_of}
use Rattle.tabled_configuration.specs.Colored.{by_cell_color}
use Rattle.tabled_configuration.specs.Configuration.{ConfigEvent, by_colors, characters_of, default_color_set}
use Rattle.tabled_changes.specs.EntitiesColored as entities
use Rattle.tabled_changes.specs.EntitiesColored.{entities_colored}
use Rattle.tabled_color.specs.BorderColors.{border_texts, full_border}
use Rattle.tabled_color.specs.Coloring.{at_once_or_each, entity_colored, one_color}
use Rattle.tabled_color.specs.Shade.{Shade, texts_of}
use Rattle.tabled_measure.specs.Sizes.{column_count}
use Rattle.tabled_request.specs.declared.request.FrameColor.{FrameColor}
use Rattle.tabled_request.specs.declared.request.Request.{Request}
use Rattle.tabled_viewing.specs.Colors.{bold, colored_if, emboldened, frame_colored, shade_of, striped}
use Rattle.tabled_width.specs.Texts.{Table}
use Rattle.tabled_claims.specs.Clean.{WritesClean, fills_of, is_clean_write}
use Rattle.tabled_claims.proofs.CleanWrites.{clean_append, clean_without}

nothing_clean : WritesClean []
nothing_clean = clean_without [] refl refl

-- around cells
no_drawn : (colors : List (Event Texts)) → list_all is_clean_write (characters_of (by_colors colors)) ≡ true
no_drawn [] = refl
no_drawn (event ∷ colors) = no_drawn colors

no_fills : (colors : List (Event Texts)) → fills_of (by_colors colors) ≡ []
no_fills [] = refl
no_fills (event ∷ colors) = no_fills colors

by_colors_clean : (colors : List (Event Texts)) → WritesClean (by_colors colors)
by_colors_clean colors = clean_without (by_colors colors) (no_drawn colors) (no_fills colors)

either_clean : (one : Option Texts) (border : Border Texts) (table : Table) → WritesClean (at_once_or_each one border (length table, column_count table) Global)
either_clean (Some color) border table = by_colors_clean (default_color_set color)
either_clean None border table = by_colors_clean (entity_border_set Global (length table, column_count table) border)

frame_clean : (given : Option FrameColor) (table : Table) → WritesClean (frame_colored given table)
unfolding frame_colored entity_colored
frame_clean None table = nothing_clean
frame_clean (Some name) table =
    let shade : Shade = shade_of name in
    let border : Border Texts = border_texts (full_border shade shade shade shade shade shade shade shade) in
    either_clean (one_color border) border table

-- of cells
stripes_clean : (colored : List (Entity × Texts)) → WritesClean (flat_map entities.entity_colored colored)
stripes_clean [] = nothing_clean
stripes_clean (one ∷ colored) = clean_append (entities.entity_colored one) (flat_map entities.entity_colored colored) (clean_without (entities.entity_colored one) refl refl) (stripes_clean colored)

striped_clean : (table : Table) → WritesClean (striped table)
unfolding striped entities_colored
striped_clean table = stripes_clean _

bold_clean : (rows : List Entity) → WritesClean (flat_map (λ (row : Entity). by_cell_color (write_of row (texts_of bold))) rows)
bold_clean [] = nothing_clean
bold_clean (row ∷ rows) =
    clean_append (by_cell_color (write_of row (texts_of bold))) (flat_map (λ (row : Entity). by_cell_color (write_of row (texts_of bold))) rows)
    (clean_without (by_cell_color (write_of row (texts_of bold))) refl refl) (bold_clean rows)

emboldened_clean : (table : Table) → WritesClean (emboldened table)
unfolding emboldened
emboldened_clean table = bold_clean (first_row (length table))

if_clean : (b : Bool) (events : List ConfigEvent) → WritesClean events → WritesClean (if b then events else [])
if_clean true events clean = clean
if_clean false events clean = nothing_clean

pub colored_clean : (in_color : Bool) (request : Request) (table : Table) → WritesClean (colored_if in_color request table)
colored_clean false request table = nothing_clean
colored_clean true request table =
    let stripes : List ConfigEvent = if request.has_stripes then striped table else [] in
    let header : List ConfigEvent = if request.has_header then emboldened table else [] in
    clean_append (stripes ++ header) (frame_colored request.frame_color table)
    (clean_append stripes header (if_clean request.has_stripes (striped table) (striped_clean table)) (if_clean request.has_header (emboldened table) (emboldened_clean table)))
    (frame_clean request.frame_color table)
