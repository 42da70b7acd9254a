-- The places along a line, in order.
use Rattle.std.specs.Prelude.{ℕ, Bool, ◌==◌, ◌||◌, nat_lt, if◌then◌else◌, List, [], ◌∷◌, ◌++◌, map}
use Rattle.std.specs.List.{flat_map}
use Rattle.tabled_places.specs.declared.place.Place.{Place}
use Rattle.tabled_places.specs.declared.place.LineOf.{LineOf}
use Rattle.tabled_object.specs.Entities.{below}

-- whether a table of the given numbers of rows and columns has no places
abbrev pub is_empty : ℕ × ℕ → Bool
is_empty (rows, cols) = (rows == 0) || (cols == 0)

-- the place at which the line crosses the other line of a number, where that one is drawn
abbrev pub crossing_at : (ℕ → Bool) → (ℕ → Place) → ℕ → List Place
crossing_at drawn crossing n = if drawn n then crossing n ∷ [] else []

-- the places along a line of `count` edges: for each edge the crossing before it and then the places of the edge, and finally
-- the last crossing
abbrev pub along_line : (ℕ → Bool) → (ℕ → ℕ) → ℕ → (ℕ → Place) → (ℕ → ℕ → Place) → List Place
along_line drawn size count crossing place =
    flat_map (λ n. crossing_at drawn crossing n ++ map (place n) (below (size n))) (below count) ++ crossing_at drawn crossing count

-- the places along a line of a table, where these are its drawn horizontal and vertical lines, its shape, and its widths and
-- heights; a line past the last one has none
abbrev pub along : (ℕ → Bool) → (ℕ → Bool) → ℕ × ℕ → (ℕ → ℕ) → (ℕ → ℕ) → LineOf → List Place
along horizontal vertical (rows, cols) widths heights (LineOf.Horizontal r) =
    if is_empty (rows, cols) || nat_lt rows r then [] else along_line vertical widths cols (λ c. Place.Cross r c) (λ c k. Place.Horizontal r c k)
along horizontal vertical (rows, cols) widths heights (LineOf.Vertical c) =
    if is_empty (rows, cols) || nat_lt cols c then [] else along_line horizontal heights rows (λ r. Place.Cross r c) (λ r k. Place.Vertical r c k)
