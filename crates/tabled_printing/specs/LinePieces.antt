-- A line of a table piece by piece: for each column, or row, the crossing before its edge and then the edge, and finally the last
-- crossing. Here alone a line's direction is taken apart.
use Rattle.std.specs.Prelude.{ℕ, ◌+◌, Bool, not, ◌&&◌, nat_le, if◌then◌else◌, List, ◌++◌, map}
use Rattle.std.specs.List.{flat_map}
use Rattle.tabled_places.specs.declared.place.LineOf.{LineOf}
use Rattle.tabled_places.specs.declared.place.Place.{Place}
use Rattle.tabled_places.specs.Drawn.{drawn}
use Rattle.tabled_configuration.specs.Configuration.{ConfigEvent, characters_of}
use Rattle.tabled_object.specs.Entities.{below}
use Rattle.tabled_printing.specs.Along.{is_empty, crossing_at}
use Rattle.tabled_printing.specs.Picture.{Look}

-- whether a table of that shape has places, and the line is not past the last one
abbrev pub has_line : ℕ × ℕ → LineOf → Bool
has_line shape (LineOf.Horizontal r) = not (is_empty shape) && nat_le r shape.0
has_line shape (LineOf.Vertical c) = not (is_empty shape) && nat_le c shape.1

-- how many edges a line has, and how long the edge of a number is
abbrev pub pieces_of : ℕ × ℕ → LineOf → ℕ
pieces_of shape (LineOf.Horizontal r) = shape.1
pieces_of shape (LineOf.Vertical c) = shape.0

abbrev pub piece_size : (ℕ → ℕ) → (ℕ → ℕ) → LineOf → ℕ → ℕ
piece_size widths heights (LineOf.Horizontal r) n = widths n
piece_size widths heights (LineOf.Vertical c) n = heights n

-- the line of the other direction of a number, which crosses this one where it is drawn
abbrev pub crossing_line : LineOf → ℕ → LineOf
crossing_line (LineOf.Horizontal r) n = LineOf.Vertical n
crossing_line (LineOf.Vertical c) n = LineOf.Horizontal n

abbrev pub crossed : (ℕ → Bool) → (ℕ → Bool) → LineOf → ℕ → Bool
crossed horizontal vertical (LineOf.Horizontal r) n = vertical n
crossed horizontal vertical (LineOf.Vertical c) n = horizontal n

-- the same after a list of events
abbrev pub crossed_after : List ConfigEvent → ℕ × ℕ → LineOf → ℕ → Bool
crossed_after es shape line n = drawn (characters_of es) (pieces_of shape line) (crossing_line line n)

-- the line's crossing with the line of a number, and a place of its edge of a number
abbrev pub crossing_of : LineOf → ℕ → Place
crossing_of (LineOf.Horizontal r) n = Place.Cross r n
crossing_of (LineOf.Vertical c) n = Place.Cross n c

abbrev pub edge_of : LineOf → ℕ → ℕ → Place
edge_of (LineOf.Horizontal r) n k = Place.Horizontal r n k
edge_of (LineOf.Vertical c) n k = Place.Vertical n c k

-- the places of that crossing, one or none, those of that edge, and both
abbrev pub crossing_places : Look → LineOf → ℕ → List Place
crossing_places view line n = crossing_at (crossed view.horizontal view.vertical line) (crossing_of line) n

abbrev pub edge_places : Look → LineOf → ℕ → List Place
edge_places view line n = map (edge_of line n) (below (piece_size view.widths view.heights line n))

abbrev pub piece_places : Look → LineOf → ℕ → List Place
piece_places view line n = crossing_places view line n ++ edge_places view line n

-- the places of the line before a crossing, and all of them
unfoldable pub places_before : Look → LineOf → ℕ → List Place
places_before view line n = flat_map (piece_places view line) (below n)

unfoldable pub all_places : Look → LineOf → List Place
all_places view line = places_before view line (pieces_of view.shape line) ++ crossing_places view line (pieces_of view.shape line)

-- how many lines of the other direction meet a line, drawn or not
abbrev pub lines_met : ℕ × ℕ → LineOf → ℕ
lines_met shape line = if has_line shape line then pieces_of shape line + 1 else 0
