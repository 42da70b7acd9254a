-- Where cells stand, and the colors of a table.
use Rattle.std.specs.Prelude.{ℕ, ◌+◌, Bool, if◌then◌else◌, List, [], ◌∷◌, ◌++◌, codes, length, flat_map, Option, Some, None}
use Rattle.tabled_object.specs.declared.entity.Entity.{Entity}
use Rattle.tabled_object.specs.declared.entity.Entity.TheVariants.{Global, Column}
use Rattle.tabled_object.specs.Listing.{first_row}
use Rattle.tabled_settings.specs.Setting.{write_of}
use Rattle.tabled_settings.specs.declared.alignment.AlignmentHorizontal.TheVariants as horizontal
use Rattle.tabled_configuration.specs.Configuration.{ConfigEvent}
use Rattle.tabled_configuration.specs.Colored.{by_cell_color}
use Rattle.tabled_changes.specs.EntitiesColored.{entities_colored}
use Rattle.tabled_color.specs.Shade.{Shade, texts_of, static_shade, sequence}
use Rattle.tabled_color.specs.BorderColors.{full_border, border_texts}
use Rattle.tabled_color.specs.Coloring.{entity_colored}
use Rattle.tabled_colorization.specs.Turns.{colorization}
use Rattle.tabled_colorization.specs.declared.pattern.Pattern.TheVariants.{Rows}
use Rattle.tabled_formatting.specs.Formatting.{alignment_set}
use Rattle.tabled_formatting.specs.declared.alignment.Alignment.TheVariants.{Horizontal}
use Rattle.tabled_width.specs.Texts.{Table}
use Rattle.tabled_measure.specs.Sizes.{column_count}
use Rattle.tabled_request.specs.declared.request.Request.{Request}
use Rattle.tabled_request.specs.declared.request.FrameColor.{FrameColor}
use Rattle.tabled_request.specs.declared.request.FrameColor.TheVariants as color
use Rattle.tabled_request.specs.declared.sides.ColumnSide.{ColumnSide}
use Rattle.tabled_request.specs.declared.sides.ColumnSide.TheVariants as side

-- the cells of a column put at a side: at the left they stand where nothing is set
abbrev pub aligned_column : ColumnSide → ℕ → List ConfigEvent
aligned_column side.Left col = []
aligned_column side.Center col = alignment_set (Horizontal horizontal.Center) (Column col)
aligned_column side.Right col = alignment_set (Horizontal horizontal.Right) (Column col)

-- the cells of columns put at their sides, from the column of that number on
unfoldable pub aligned : ℕ → List ColumnSide → List ConfigEvent
aligned col [] = []
aligned col (here ∷ more) = aligned_column here col ++ aligned (col + 1) more

-- the code of a terminal for characters of a color
abbrev pub code_of : FrameColor → List ℕ
code_of color.Black = codes "30"
code_of color.Red = codes "31"
code_of color.Green = codes "32"
code_of color.Yellow = codes "33"
code_of color.Blue = codes "34"
code_of color.Magenta = codes "35"
code_of color.Cyan = codes "36"
code_of color.White = codes "37"

abbrev pub shade_of : FrameColor → Shade
shade_of color = static_shade (sequence (code_of color)) (sequence (codes "39"))

-- no color, a gray background, and bold characters
abbrev pub plain : Shade
plain = static_shade [] []

abbrev pub gray : Shade
gray = static_shade (sequence (codes "100")) (sequence (codes "49"))

abbrev pub bold : Shade
bold = static_shade (sequence (codes "1")) (sequence (codes "22"))

-- every other row of a table has a background
unfoldable pub striped : Table → List ConfigEvent
striped table = entities_colored (colorization (record { pattern = Rows; colors = plain ∷ gray ∷ [] }) (length table) (column_count table))

-- the first row, if there is one, is bold
unfoldable pub emboldened : Table → List ConfigEvent
emboldened table = flat_map (λ (row : Entity). by_cell_color (write_of row (texts_of bold))) (first_row (length table))

-- all borders have a color, if one is given
unfoldable pub frame_colored : Option FrameColor → Table → List ConfigEvent
frame_colored None table = []
frame_colored (Some name) table =
    let shade = shade_of name in
    entity_colored (border_texts (full_border shade shade shade shade shade shade shade shade)) (length table, column_count table) Global

-- the colors that a request asks for, where there are colors
abbrev pub colored : Request → Table → List ConfigEvent
colored request table =
    ((if request.has_stripes then striped table else []) ++ (if request.has_header then emboldened table else [])) ++ frame_colored request.frame_color table

abbrev pub colored_if : Bool → Request → Table → List ConfigEvent
colored_if is_colored request table = if is_colored then colored request table else []
