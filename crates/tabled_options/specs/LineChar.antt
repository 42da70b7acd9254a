-- A character at one numbered place of each of many edges.
use Rattle.std.specs.Prelude.{ℕ, Bool, if◌then◌else◌, List, map, filter}
use Rattle.tabled_object.specs.declared.entity.Entity.{Entity}
use Rattle.tabled_object.specs.declared.position.Position.{Position}
use Rattle.tabled_object.specs.Entities.{cells_of}
use Rattle.tabled_object.specs.declared.offset.Offset.{Offset}
use Rattle.tabled_places.specs.declared.place.Place.{Place}
use Rattle.tabled_places.specs.declared.site.Direction.{Direction}
use Rattle.tabled_places.specs.declared.site.Direction.TheVariants.{Horizontal, Vertical}
use Rattle.tabled_places.specs.declared.site.Site.TheVariants.{Offset as at_offset}
use Rattle.tabled_places.specs.declared.event.Event.{Event}
use Rattle.tabled_places.specs.declared.event.Event.TheVariants.{Write as write}
use Rattle.tabled_places.specs.declared.event.Written.TheVariants.{Sign as sign}
use Rattle.tabled_places.specs.Value.{has_spot}
use Rattle.tabled_configuration.specs.Configuration.{ConfigEvent, by_characters}

-- a character, the numbered place of an edge at which it stands, and whether edges of horizontal or of vertical lines are meant
pub record EdgeChar : Type 0 where
  pub character : ℕ
  pub offset : Offset
  pub horizontal : Bool

abbrev pub direction_of : EdgeChar → Direction
direction_of mark = if mark.horizontal then Horizontal else Vertical

-- whether a table of the given shape has the edge above a position, or left of it. The edges of the closing lines are those
-- of the positions below the last row, and right of the last column
abbrev pub has_edge : Direction → ℕ × ℕ → Position → Bool
has_edge Horizontal shape pos = has_spot shape (Place.Horizontal pos.row pos.col 0)
has_edge Vertical shape pos = has_spot shape (Place.Vertical pos.row pos.col 0)

-- the character written at that place of the edge of a position
abbrev pub mark_written : EdgeChar → Position → Event ℕ
mark_written mark pos = write (at_offset (direction_of mark) pos.row pos.col mark.offset) (sign mark.character)

-- the character of each position of an entity, in row order, where there is such an edge
unfoldable pub line_char_events : EdgeChar → ℕ × ℕ → Entity → List ConfigEvent
line_char_events mark (rows, cols) entity =
    by_characters (map (mark_written mark) (filter (has_edge (direction_of mark) (rows, cols)) (cells_of entity rows cols)))
