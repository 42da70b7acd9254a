-- How a place is read, level by level.
use Rattle.std.specs.Prelude.{ℕ, ◌-◌, Option, Some, None, option_and_then}
use Rattle.std.specs.FinMap.{get}
use Rattle.tabled_places.specs.Site.{Direction, Horizontal, Vertical, Crossing, rank, edges, crossings, class_value, horizontal_meeting, vertical_meeting}
use Rattle.tabled_places.specs.State.{State, edge_place}
use Rattle.tabled_places.specs.Calls.{edge_of}
use Rattle.tabled_places.specs.Drawn.{number}
use Rattle.tabled_object.specs.declared.offset.Offset.{Offset}
use Rattle.tabled_places.specs.declared.place.LineOf.{LineOf}

-- the first, if there is one, and else the other
abbrev pub pick : {T : Type 0} → Option T → Option T → Option T
pick None other = other
pick (Some x) other = Some x

-- which way the edges of a line run
abbrev pub direction_of : LineOf → Direction
direction_of (LineOf.Horizontal n) = Horizontal
direction_of (LineOf.Vertical n) = Vertical

-- what a custom line has for its edges
abbrev pub main_of : {T : Type 0} → State T → LineOf → Option T
main_of k (LineOf.Horizontal n) = option_and_then (λ custom. custom.main) (get k.horizontal_lines n)
main_of k (LineOf.Vertical n) = option_and_then (λ custom. custom.main) (get k.vertical_lines n)

-- what is kept at an offset of the edge of a line
abbrev pub offset_of : {T : Type 0} → State T → LineOf → ℕ → Offset → Option T
offset_of k (LineOf.Horizontal n) at offset = get k.horizontal_offsets (edge_place n at offset)
offset_of k (LineOf.Vertical n) at offset = get k.vertical_offsets (edge_place at n offset)

-- what all levels but the offsets have for the edge of a line, of the lines 0 to count of its direction
abbrev pub plain_edge : {T : Type 0} → State T → LineOf → ℕ → ℕ → Option T
plain_edge k line count at =
    pick (get k.cells (edge_of line at)) (pick (main_of k line)
    (pick (class_value (edges (direction_of line) (rank count (number line))) k.class_record) k.default_value))

-- and with them, for a place of it
abbrev pub edge_shown : {T : Type 0} → State T → LineOf → ℕ → ℕ → ℕ → ℕ → Option T
edge_shown k line count at n size =
    pick (offset_of k line at (Offset.Start n)) (pick (offset_of k line at (Offset.End (size - 1 - n))) (plain_edge k line count at))

-- what all levels have for a crossing
abbrev pub plain_crossing : {T : Type 0} → State T → ℕ → ℕ → ℕ → ℕ → Option T
plain_crossing k rows cols r c =
    pick (get k.cells (Crossing r c)) (pick (option_and_then (horizontal_meeting (rank cols c)) (get k.horizontal_lines r))
    (pick (option_and_then (vertical_meeting (rank rows r)) (get k.vertical_lines c))
    (pick (class_value (crossings (rank rows r) (rank cols c)) k.class_record) k.default_value)))
