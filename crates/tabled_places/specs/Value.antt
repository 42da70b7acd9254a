-- Places and their values.
use Rattle.std.specs.Prelude.{ℕ, ◌-◌, Bool, ◌&&◌, nat_lt, nat_le, if◌then◌else◌, Option, Some, None, List, [], ◌∷◌}
use Rattle.tabled_places.specs.declared.place.LineOf.{LineOf}
use Rattle.tabled_places.specs.declared.place.Place.{Place}
use Rattle.tabled_object.specs.declared.offset.Offset.{Offset}
use Rattle.tabled_places.specs.Site.{Horizontal, Vertical, rank, Class, edges, crossings, main_edges, meeting, Edge, Crossing, Site, the_default, of_class, of_line, at_spot, at_offset}
use Rattle.tabled_places.specs.Event.{Written, sign, standing}

-- whether a table of the given numbers of rows and columns has the edge of the place, or the crossing; one without rows or
-- columns has none
abbrev pub has_spot : ℕ × ℕ → Place → Bool
has_spot (rows, cols) (Place.Horizontal r c k) = nat_lt 0 rows && nat_le r rows && nat_lt c cols
has_spot (rows, cols) (Place.Vertical r c k) = nat_lt 0 cols && nat_lt r rows && nat_le c cols
has_spot (rows, cols) (Place.Cross r c) = nat_lt 0 rows && nat_lt 0 cols && nat_le r rows && nat_le c cols

-- whether such a table has the place, where the edge of the place is `size` characters long
abbrev pub inside : ℕ × ℕ → ℕ → Place → Bool
inside shape size (Place.Horizontal r c k) = has_spot shape (Place.Horizontal r c k) && nat_lt k size
inside shape size (Place.Vertical r c k) = has_spot shape (Place.Vertical r c k) && nat_lt k size
inside shape size (Place.Cross r c) = has_spot shape (Place.Cross r c)

-- the class of a place
abbrev pub class_at : ℕ × ℕ → Place → Class
class_at (rows, cols) (Place.Horizontal r c k) = edges Horizontal (rank rows r)
class_at (rows, cols) (Place.Vertical r c k) = edges Vertical (rank cols c)
class_at (rows, cols) (Place.Cross r c) = crossings (rank rows r) (rank cols c)

-- the sites below the offsets of a place, from the highest level down
abbrev pub plain_sites : ℕ × ℕ → Place → List Site
plain_sites (rows, cols) (Place.Horizontal r c k) =
    at_spot (Edge Horizontal r c) ∷ of_line (LineOf.Horizontal r) main_edges
    ∷ of_class (class_at (rows, cols) (Place.Horizontal r c k)) ∷ the_default ∷ []
plain_sites (rows, cols) (Place.Vertical r c k) =
    at_spot (Edge Vertical r c) ∷ of_line (LineOf.Vertical c) main_edges
    ∷ of_class (class_at (rows, cols) (Place.Vertical r c k)) ∷ the_default ∷ []
plain_sites (rows, cols) (Place.Cross r c) =
    at_spot (Crossing r c) ∷ of_line (LineOf.Horizontal r) (meeting (rank cols c)) ∷ of_line (LineOf.Vertical c) (meeting (rank rows r))
    ∷ of_class (class_at (rows, cols) (Place.Cross r c)) ∷ the_default ∷ []

-- the sites of a place inside; the size is the length of its edge
abbrev pub sites : ℕ × ℕ → ℕ → Place → List Site
sites shape size (Place.Horizontal r c k) = at_offset Horizontal r c (Offset.Start k) ∷ at_offset Horizontal r c (Offset.End (size - 1 - k)) ∷ plain_sites shape (Place.Horizontal r c k)
sites shape size (Place.Vertical r c k) = at_offset Vertical r c (Offset.Start k) ∷ at_offset Vertical r c (Offset.End (size - 1 - k)) ∷ plain_sites shape (Place.Vertical r c k)
sites shape size (Place.Cross r c) = plain_sites shape (Place.Cross r c)

-- the sign, where that is what is kept, and else the other value
abbrev pub sign_or : {T : Type 0} → Option (Written T) → Option T → Option T
sign_or (Some (sign x)) other = Some x
sign_or (Some standing) other = other
sign_or None other = other

-- the first sign that is kept at one of the sites
abbrev pub first_sign : {T : Type 0} → (Site → Option (Written T)) → List Site → Option T
first_sign state [] = None
first_sign state (q ∷ qs) = sign_or (state q) (first_sign state qs)

-- the value of a place: what is kept at the highest level that has something there
unfoldable pub value : {T : Type 0} → (Site → Option (Written T)) → ℕ × ℕ → ℕ → Place → Option T
value state shape size place = if inside shape size place then first_sign state (sites shape size place) else None

-- the value of an edge or a crossing without the offsets, however long its edge is
unfoldable pub plain_value : {T : Type 0} → (Site → Option (Written T)) → ℕ × ℕ → Place → Option T
plain_value state shape place = if has_spot shape place then first_sign state (plain_sites shape place) else None
