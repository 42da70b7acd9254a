-- What colors do to cells, and to a whole table.
use Rattle.std.specs.Prelude.{ℕ, ◌+◌, ◌==◌, ◌||◌, if◌then◌else◌, Option, Some, None, List, [], ◌∷◌, ◌++◌}
use Rattle.std.specs.List.{flat_map, list_all}
use Rattle.std.specs.Option.{option_eq}
use Rattle.tabled_border.specs.Texts.{Texts}
use Rattle.tabled_border.specs.declared.border.Border.{Border}
use Rattle.tabled_object.specs.declared.entity.Entity.{Entity}
use Rattle.tabled_object.specs.Entities.{below}
use Rattle.tabled_settings.specs.Setting.{is_global}
use Rattle.tabled_places.specs.declared.place.LineOf.{LineOf}
use Rattle.tabled_places.specs.declared.site.Spot.{Spot}
use Rattle.tabled_places.specs.declared.site.Spot.TheVariants.{Crossing}
use Rattle.tabled_places.specs.declared.site.Site.TheVariants.{Cell as at_spot}
use Rattle.tabled_places.specs.declared.event.Event.{Event}
use Rattle.tabled_places.specs.declared.event.Event.TheVariants.{Write as write, Erase as erase}
use Rattle.tabled_places.specs.declared.event.Written.TheVariants.{Sign as sign}
use Rattle.tabled_places.specs.declared.event.Region.TheVariants.{One as one_site}
use Rattle.tabled_places.specs.Calls.{entity_border_set, edge_of, crossing_of}
use Rattle.tabled_configuration.specs.Configuration.{ConfigEvent, by_colors, default_color_set}
use Rattle.tabled_configuration.specs.SameConfiguration.{same_texts}

-- ---- around cells

-- the one color of all sides and corners, where each is given and has the same texts
unfoldable pub one_color : Border Texts → Option Texts
one_color border =
    if list_all (option_eq same_texts border.top)
    (border.bottom ∷ border.left ∷ border.right ∷ border.left_top_corner ∷ border.left_bottom_corner ∷ border.right_top_corner ∷ border.right_bottom_corner ∷ [])
    then border.top else None

-- where there is one color for all places: it is the default, and the class colors and the cells' colors are erased; else the
-- colors of the border are written around each cell of the entity
abbrev pub at_once_or_each : Option Texts → Border Texts → ℕ × ℕ → Entity → List ConfigEvent
at_once_or_each (Some color) border shape entity = by_colors (default_color_set color)
at_once_or_each None border shape entity = by_colors (entity_border_set entity shape border)

-- the colors of a border put around each cell of an entity, in a table of the given numbers of rows and columns: where all
-- cells get one color all around, all places get it at once
unfoldable pub entity_colored : Border Texts → ℕ × ℕ → Entity → List ConfigEvent
entity_colored border shape entity = at_once_or_each (if is_global entity then one_color border else None) border shape entity

-- ---- around a table

-- a color written at a spot, if there is one; and the color there erased, if there is none
abbrev pub spot_colored : Spot → Option Texts → List (Event Texts)
spot_colored spot None = []
spot_colored spot (Some color) = write (at_spot spot) (sign color) ∷ []

abbrev pub spot_cleared : Spot → Option Texts → List (Event Texts)
spot_cleared spot None = erase (one_site (at_spot spot)) ∷ []
spot_cleared spot (Some color) = []

-- a color, if there is one, written along a line of the given number of edges: at each edge, and at the crossing after it
unfoldable pub line_colored : LineOf → ℕ → Option Texts → List (Event Texts)
line_colored line length color = flat_map (λ n. spot_colored (edge_of line n) color ++ spot_colored (crossing_of line (n + 1)) color) (below length)

-- what is written around a table of the given numbers of rows and columns: its four outer lines, and its corners
unfoldable pub frame_colored : Border Texts → ℕ × ℕ → List (Event Texts)
frame_colored border (rows, cols) =
    line_colored (LineOf.Horizontal 0) cols border.top ++ line_colored (LineOf.Horizontal rows) cols border.bottom
    ++ line_colored (LineOf.Vertical 0) rows border.left ++ line_colored (LineOf.Vertical cols) rows border.right
    ++ spot_colored (Crossing 0 0) border.left_top_corner ++ spot_colored (Crossing 0 cols) border.right_top_corner
    ++ spot_colored (Crossing rows 0) border.left_bottom_corner ++ spot_colored (Crossing rows cols) border.right_bottom_corner

-- the corners for which no color is given are cleared
unfoldable pub corners_cleared : Border Texts → ℕ × ℕ → List (Event Texts)
corners_cleared border (rows, cols) =
    spot_cleared (Crossing 0 0) border.left_top_corner ++ spot_cleared (Crossing 0 cols) border.right_top_corner
    ++ spot_cleared (Crossing rows 0) border.left_bottom_corner ++ spot_cleared (Crossing rows cols) border.right_bottom_corner

-- the colors of a border put around a table; one without rows or columns has no outer lines
unfoldable pub table_colored : Border Texts → ℕ × ℕ → List ConfigEvent
table_colored border (rows, cols) =
    if (rows == 0) || (cols == 0) then [] else by_colors (frame_colored border (rows, cols)) ++ by_colors (corners_cleared border (rows, cols))
