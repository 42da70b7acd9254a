-- The colors of cells, by entity.
use Rattle.std.specs.Prelude.{◌≡◌, ⊤, Option, Some, None, List, [], ◌∷◌}
use Rattle.tabled_border.specs.Texts.{Texts}
use Rattle.tabled_settings.specs.Setting.{EntityEvent, write_of}
use Rattle.tabled_settings.specs.Live.{Live, at_first, after}

-- a map of colors is given, in place of what there was; or a color is written or removed for an entity
pub data CellColorEvent : Type 0 where
  given : Live Texts → CellColorEvent
  changed : EntityEvent Texts → CellColorEvent

-- the color without texts, which cells have where none was set
abbrev pub no_color : Texts
no_color = record { prefix = []; suffix = [] }

-- the colors after an event. There are none until a map is given or a color is written: before that, a removal changes nothing
abbrev pub colors_after_event : Option (Live Texts) → CellColorEvent → Option (Live Texts)
colors_after_event colors (given live) = Some live
colors_after_event (Some live) (changed event) = Some (after live event)
colors_after_event None (changed (entity, Some color)) = Some (after (at_first no_color) (write_of entity color))
colors_after_event None (changed (entity, None)) = None

abbrev pub colors_after : Option (Live Texts) → List CellColorEvent → Option (Live Texts)
colors_after colors [] = colors
colors_after colors (event ∷ events) = colors_after (colors_after_event colors event) events

-- there are no colors, or none but for all cells, and these have the color without texts
abbrev pub IsBare : Option (Live Texts) → Type 0
IsBare None = ⊤
IsBare (Some live) = (live.since ≡ []) × (live.global ≡ no_color)
