-- The events of the store's calls.
use Rattle.std.specs.Prelude.{ℕ, ◌+◌, Bool, ◌==◌, ◌||◌, if◌then◌else◌, Option, Some, None, is_none, List, [], ◌∷◌, ◌++◌, map, option_map}
use Rattle.std.specs.List.{zip, filter, filter_map, flat_map, list_any}
use Rattle.tabled_border.specs.declared.border.Border.{Border}
use Rattle.tabled_places.specs.declared.lines.HorizontalLine.{HorizontalLine}
use Rattle.tabled_places.specs.declared.lines.VerticalLine.{VerticalLine}
use Rattle.tabled_object.specs.declared.offset.Offset.{Offset}
use Rattle.tabled_places.specs.declared.place.LineOf.{LineOf}
use Rattle.tabled_places.specs.declared.place.Place.{Place}
use Rattle.tabled_object.specs.declared.position.Position.{Position}
use Rattle.tabled_object.specs.declared.entity.Entity.{Entity}
use Rattle.tabled_places.specs.CellBorder.{border_places, border_fields}
use Rattle.tabled_object.specs.Entities.{below, cells_of, is_inside}
use Rattle.tabled_places.specs.Site.{Direction, Horizontal, Vertical, Spot, Edge, Crossing, Site, the_default, at_spot, at_offset}
use Rattle.tabled_places.specs.Event.{sign, Written, Event, write, erase, level_sites, offset_sites, line_sites, one_site}
use Rattle.tabled_places.specs.Drawn.{written}
use Rattle.tabled_places.specs.Lines as lines

-- the default written
abbrev pub default_set : {T : Type 0} → T → List (Event T)
default_set value = write the_default (sign value) ∷ []

-- the default cleared
abbrev pub default_erased : {T : Type 0} → List (Event T)
default_erased = erase (level_sites 0) ∷ []

-- a custom line put at its index, and removed
abbrev pub line_set_horizontal : {T : Type 0} → ℕ → HorizontalLine T → List (Event T)
line_set_horizontal n line = lines.horizontal_line_set n line

abbrev pub line_set_vertical : {T : Type 0} → ℕ → VerticalLine T → List (Event T)
line_set_vertical n line = lines.vertical_line_set n line

abbrev pub line_removed : {T : Type 0} → LineOf → List (Event T)
line_removed line = erase (line_sites line) ∷ []

-- all custom lines cleared
abbrev pub lines_erased : {T : Type 0} → List (Event T)
lines_erased = erase (level_sites 2) ∷ erase (level_sites 3) ∷ []

-- the edge or the crossing of a place
abbrev pub spot_of : Place → Spot
spot_of (Place.Horizontal r c k) = Edge Horizontal r c
spot_of (Place.Vertical r c k) = Edge Vertical r c
spot_of (Place.Cross r c) = Crossing r c

-- a cell's value written at the spot of a place, and erased there
abbrev pub cell_set : {T : Type 0} → Place → T → List (Event T)
cell_set place value = write (at_spot (spot_of place)) (sign value) ∷ []

abbrev pub cell_erased : {T : Type 0} → Place → List (Event T)
cell_erased place = erase (one_site (at_spot (spot_of place))) ∷ []

-- a value written at the spot of a place, where both the place and the value are there
abbrev pub given_write : {T : Type 0} → Option Place × Option T → Option (Event T)
given_write (Some place, Some value) = Some (write (at_spot (spot_of place)) (sign value))
given_write (Some place, None) = None
given_write (None, value) = None

unfoldable pub places_set : {T : Type 0} → List (Option Place × Option T) → List (Event T)
places_set writes = filter_map given_write writes

-- what a border gives, written at the sides and corners of a cell
abbrev pub border_set : {T : Type 0} → Position → Border T → List (Event T)
border_set pos border = places_set (zip (border_fields (border_places pos)) (border_fields border))

-- whether the events write at some site at which nothing is kept
abbrev pub writes_anew : {T : Type 0} → (Site → Option (Written T)) → List (Event T) → Bool
writes_anew state events = list_any (λ site. is_none (state site)) (written events)

-- the same for each of the given cells that lies in a table of the given numbers of rows and columns, in their order
unfoldable pub borders_of : {T : Type 0} → ℕ × ℕ → Border T → List Position → List (Event T)
borders_of (rows, cols) border cells = flat_map (λ pos. border_set pos border) (filter (is_inside rows cols) cells)

-- the same for the cells of an entity, in row order
abbrev pub entity_border_set : {T : Type 0} → Entity → ℕ × ℕ → Border T → List (Event T)
entity_border_set entity (rows, cols) border = borders_of (rows, cols) border (cells_of entity rows cols)

-- the spots of places erased
unfoldable pub places_erased : {T : Type 0} → List (Option Place) → List (Event T)
places_erased places = filter_map (option_map (λ place. erase (one_site (at_spot (spot_of place))))) places

-- the sides and corners of a cell erased
abbrev pub border_erased : {T : Type 0} → Position → List (Event T)
border_erased pos = places_erased (border_fields (border_places pos))

-- the same for each of the given cells that lies in a table of the given numbers of rows and columns, in their order
unfoldable pub borders_erased : {T : Type 0} → ℕ × ℕ → List Position → List (Event T)
borders_erased (rows, cols) cells = flat_map border_erased (filter (is_inside rows cols) cells)

-- the same for the cells of an entity, in row order
abbrev pub entity_border_erased : {T : Type 0} → Entity → ℕ × ℕ → List (Event T)
entity_border_erased entity (rows, cols) = borders_erased (rows, cols) (cells_of entity rows cols)

-- spots erased
unfoldable pub spots_erased : {T : Type 0} → List Spot → List (Event T)
spots_erased spots = map (λ spot. erase (one_site (at_spot spot))) spots

-- the edge of a line over a column or beside a row, and its crossing with a line of the other direction
abbrev pub edge_of : LineOf → ℕ → Spot
edge_of (LineOf.Horizontal n) at = Edge Horizontal n at
edge_of (LineOf.Vertical n) at = Edge Vertical at n

abbrev pub crossing_of : LineOf → ℕ → Spot
crossing_of (LineOf.Horizontal n) at = Crossing n at
crossing_of (LineOf.Vertical n) at = Crossing at n

-- the spots of a line of the given number of edges: these edges, and its crossings with all lines of the other direction
abbrev pub line_spots : LineOf → ℕ → List Spot
line_spots line length = map (edge_of line) (below length) ++ map (crossing_of line) (below (length + 1))

-- the outer lines of a table of the given numbers of rows and columns erased; one without rows or columns has none
abbrev pub frame_erased : {T : Type 0} → ℕ × ℕ → List (Event T)
frame_erased (rows, cols) =
    if (rows == 0) || (cols == 0) then [] else spots_erased (line_spots (LineOf.Horizontal 0) cols
    ++ line_spots (LineOf.Horizontal rows) cols ++ line_spots (LineOf.Vertical 0) rows ++ line_spots (LineOf.Vertical cols) rows)

-- the site of a numbered place of an edge; a crossing has none
abbrev pub offset_site : Place → Offset → Option Site
offset_site (Place.Horizontal r c k) offset = Some (at_offset Horizontal r c offset)
offset_site (Place.Vertical r c k) offset = Some (at_offset Vertical r c offset)
offset_site (Place.Cross r c) offset = None

-- a value written at that site
abbrev pub edge_offset : {T : Type 0} → Direction → ℕ → ℕ → Offset → T → List (Event T)
edge_offset d r c offset value = write (at_offset d r c offset) (sign value) ∷ []

abbrev pub offset_set : {T : Type 0} → Place → Offset → T → List (Event T)
offset_set (Place.Horizontal r c k) offset value = edge_offset Horizontal r c offset value
offset_set (Place.Vertical r c k) offset value = edge_offset Vertical r c offset value
offset_set (Place.Cross r c) offset value = []

-- a numbered place of an edge cleared
abbrev pub offset_erased : {T : Type 0} → Direction → ℕ → ℕ → Offset → List (Event T)
offset_erased d r c offset = erase (one_site (at_offset d r c offset)) ∷ []

-- the offsets on the edges of one direction cleared
abbrev pub offsets_erased : {T : Type 0} → Direction → List (Event T)
offsets_erased d = erase (offset_sites d) ∷ []
