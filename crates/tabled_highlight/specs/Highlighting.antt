-- An outline as an option: around which cells, and with what.
use Rattle.std.specs.Prelude.{ℕ, Option, Some, None, option_map, List, [], ◌++◌}
use Rattle.tabled_border.specs.declared.border.Border.{Border}
use Rattle.tabled_border.specs.Border.{no_border}
use Rattle.tabled_object.specs.declared.entity.Entity.{Entity}
use Rattle.tabled_object.specs.Listing.{listed}
use Rattle.tabled_places.specs.declared.event.Event.{Event}
use Rattle.tabled_configuration.specs.Configuration.{ConfigEvent, by_characters, by_colors}
use Rattle.tabled_color.specs.Shade.{Shade}
use Rattle.tabled_color.specs.BorderColors.{border_texts}
use Rattle.tabled_highlight.specs.Outline.{Outlining, CellSet, outline}

-- what names the cells, the characters and the colors for their sides and corners, and the character that stands where two of
-- them touch at a corner alone, each where it is given
pub record Highlighting (O : Type 0) : Type 0 where
  pub target : O
  pub border : Option (Border ℕ)
  pub diagonal : Option ℕ
  pub color : Option (Border Shade)

-- what an outline is drawn with, if anything is given
abbrev pub drawn_with : {T : Type 0} → Option (Border T) → Option T → Option (Outlining T)
drawn_with None None = None
drawn_with None (Some value) = Some (record { border = no_border; diagonal = Some value })
drawn_with (Some border) diagonal = Some (record { border = border; diagonal = diagonal })

-- the outline that is drawn with it
abbrev pub outline_if : {T : Type 0} → ℕ × ℕ → CellSet → Option (Outlining T) → List (Event T)
outline_if shape cells None = []
outline_if shape cells (Some given) = outline shape cells given

-- the outline of the cells of a table that a listing covers, in characters and in colors
unfoldable pub highlight_events : ℕ × ℕ → List Entity → Option (Border ℕ) → Option ℕ → Option (Border Shade) → List ConfigEvent
highlight_events (rows, cols) entities border diagonal color =
    by_characters (outline_if (rows, cols) (listed entities rows cols) (drawn_with border diagonal))
    ++ by_colors (outline_if (rows, cols) (listed entities rows cols) (drawn_with (option_map border_texts color) None))
