-- A color that is joined onto those that cells have.
use Rattle.std.specs.Prelude.{Option, Some, None, List, map}
use Rattle.tabled_border.specs.Texts.{Texts}
use Rattle.tabled_object.specs.declared.entity.Entity.{Entity}
use Rattle.tabled_object.specs.declared.entity.Entity.TheVariants.{Cell}
use Rattle.tabled_object.specs.declared.position.Position.{Position}
use Rattle.tabled_settings.specs.Live.{Live, value_at}
use Rattle.tabled_color.specs.Shade.{Shade, static_shade, joined, texts_of}
use Rattle.tabled_configuration.specs.CellColors.{no_color}

-- the color that a cell has: the one without texts, where no color was set
abbrev pub color_at : Option (Live Texts) → Position → Texts
color_at None cell = no_color
color_at (Some colors) cell = value_at colors cell

-- a color and another one at once: its texts, each followed by that of the other where they differ
abbrev pub joined_texts : Texts → Shade → Texts
joined_texts first second = texts_of (joined (static_shade first.prefix first.suffix) second)

-- a cell with the color that it has and another one
abbrev pub cell_joined : Shade → Option (Live Texts) → Position → Entity × Texts
cell_joined color colors cell = (Cell cell.row cell.col, joined_texts (color_at colors cell) color)

-- each cell of a list with the color that it has and another one
abbrev pub cells_joined : Shade → Option (Live Texts) → List Position → List (Entity × Texts)
cells_joined color colors cells = map (cell_joined color colors) cells
