-- What a store keeps, as a value, and the same as one function of the sites.
use Rattle.std.specs.Prelude.{◌≡◌, ℕ, Bool, true, ◌&&◌, ◌||◌, is_some, Option, None, Some, List, [], ◌∷◌, ◌++◌, option_map, option_and_then}
use Rattle.std.specs.List.{list_any, filter_map}
use Rattle.std.specs.Ordering.{nat_cmp}
use Rattle.std.specs.FinMap.{FinMap, empty, get, entries}
use Rattle.tabled_places.specs.declared.borders.Borders.{Borders}
use Rattle.tabled_places.specs.declared.lines.HorizontalLine.{HorizontalLine}
use Rattle.tabled_places.specs.declared.lines.VerticalLine.{VerticalLine}
use Rattle.tabled_places.specs.declared.place.LineOf.{LineOf}
use Rattle.std.specs.declared.cmp.Ordering.{Ordering}
use Rattle.tabled_places.specs.declared.keys.EdgePlace.{EdgePlace}
pub use Rattle.tabled_object.specs.Entities.{position}
use Rattle.tabled_places.specs.Keys.{spot_cmp, edge_place_cmp}
use Rattle.tabled_object.specs.declared.offset.Offset.{Offset}
use Rattle.tabled_places.specs.Site.{Direction, Horizontal, Vertical, Rank, first, inner, last, stands, Spot, Class, edges, crossings, class_value, Part, mark, main_edges, meeting, horizontal_meeting, vertical_meeting, Site, the_default, of_class, of_line, at_spot, at_offset}
use Rattle.tabled_places.specs.Event.{Written, sign, standing, Event, write, erase, level_sites}
use Rattle.tabled_places.specs.Drawn.{lies_on}
use Rattle.tabled_places.specs.Lines.{horizontal_line_set, vertical_line_set}

-- what a store keeps, level by level
pub record State (T : Type 0) : Type 0 where
  pub default_value : Option T
  pub class_record : Borders T
  pub vertical_lines : FinMap nat_cmp (VerticalLine T)
  pub horizontal_lines : FinMap nat_cmp (HorizontalLine T)
  pub cells : FinMap spot_cmp T
  pub horizontal_offsets : FinMap edge_place_cmp T
  pub vertical_offsets : FinMap edge_place_cmp T

-- the offsets of the edges of one direction
abbrev pub offset_values : {T : Type 0} → Direction → State T → FinMap edge_place_cmp T
offset_values Horizontal state = state.horizontal_offsets
offset_values Vertical state = state.vertical_offsets

abbrev pub edge_place : ℕ → ℕ → Offset → EdgePlace
edge_place r c offset = record { row = r; col = c; offset = offset }

-- nothing is kept for an edge or a crossing by itself
abbrev pub HasNoCells : {T : Type 0} → State T → Type 0
HasNoCells state = state.cells ≡ empty

-- nor for one of a line
abbrev pub HasNoCellsOn : {T : Type 0} → LineOf → State T → Type 0
HasNoCellsOn line state = (spot : Spot) → lies_on line spot ≡ true → get state.cells spot ≡ None

-- nothing is kept at an offset of an edge of that direction in a row: on a horizontal line of that number, or beside a row of cells
abbrev pub HasNoOffsetsAt : {T : Type 0} → Direction → ℕ → State T → Type 0
HasNoOffsetsAt d r state = (c : ℕ) (offset : Offset) → get (offset_values d state) (edge_place r c offset) ≡ None

-- what a custom line has for each of its parts; that it is there is its mark
abbrev pub horizontal_part : {T : Type 0} → Part → HorizontalLine T → Option (Written T)
horizontal_part mark line = Some standing
horizontal_part main_edges line = option_map sign line.main
horizontal_part (meeting rank) line = option_map sign (horizontal_meeting rank line)

abbrev pub vertical_part : {T : Type 0} → Part → VerticalLine T → Option (Written T)
vertical_part mark line = Some standing
vertical_part main_edges line = option_map sign line.main
vertical_part (meeting rank) line = option_map sign (vertical_meeting rank line)

-- what is kept at a site
abbrev pub state_at : {T : Type 0} → State T → Site → Option (Written T)
state_at state the_default = option_map sign state.default_value
state_at state (of_class class) = option_map sign (class_value class state.class_record)
state_at state (of_line (LineOf.Horizontal n) part) = option_and_then (horizontal_part part) (get state.horizontal_lines n)
state_at state (of_line (LineOf.Vertical n) part) = option_and_then (vertical_part part) (get state.vertical_lines n)
state_at state (at_spot spot) = option_map sign (get state.cells spot)
state_at state (at_offset d r c offset) = option_map sign (get (offset_values d state) (edge_place r c offset))

-- the classes whose fields draw a line of that direction and rank
abbrev pub line_classes : Direction → Rank → List Class
line_classes Horizontal rank = edges Horizontal rank ∷ crossings rank first ∷ crossings rank inner ∷ crossings rank last ∷ []
line_classes Vertical rank = edges Vertical rank ∷ crossings first rank ∷ crossings inner rank ∷ crossings last rank ∷ []

-- whether a class record has a field of one of the classes
abbrev pub has_class : {T : Type 0} → Borders T → List Class → Bool
has_class borders cs = list_any (λ c. is_some (class_value c borders)) cs

abbrev pub rank_draws : {T : Type 0} → Borders T → ℕ → Direction → ℕ → Bool
rank_draws borders count d n =
    (stands first count n && has_class borders (line_classes d first))
    || (stands last count n && has_class borders (line_classes d last))
    || (stands inner count n && has_class borders (line_classes d inner))

-- whether a class record draws a line, of the lines 0 to count of its direction
abbrev pub class_draws : {T : Type 0} → Borders T → ℕ → LineOf → Bool
class_draws borders count (LineOf.Horizontal n) = rank_draws borders count Horizontal n
class_draws borders count (LineOf.Vertical n) = rank_draws borders count Vertical n

-- no class has something
abbrev pub HasNothing : {T : Type 0} → Borders T → Type 0
HasNothing borders = (class : Class) → class_value class borders ≡ None

-- all fifteen classes
unfoldable pub classes : List Class
classes =
    edges Horizontal first ∷ edges Horizontal inner ∷ edges Horizontal last ∷ edges Vertical first ∷ edges Vertical inner ∷ edges Vertical last
    ∷ crossings first first ∷ crossings first inner ∷ crossings first last
    ∷ crossings inner first ∷ crossings inner inner ∷ crossings inner last
    ∷ crossings last first ∷ crossings last inner ∷ crossings last last ∷ []

-- the writes of the given fields of a class record, for these classes
unfoldable pub class_writes : {T : Type 0} → Borders T → List Class → List (Event T)
class_writes borders cs = filter_map (λ c. option_map (λ x. write (of_class c) (sign x)) (class_value c borders)) cs

-- the class record set whole: its sites are cleared, and then the given fields written
unfoldable pub class_record_set : {T : Type 0} → Borders T → List (Event T)
class_record_set borders = erase (level_sites 1) ∷ class_writes borders classes

-- the events that put what is under each key, the first entry last
abbrev pub entry_events : {K X T : Type 0} → (K → X → List (Event T)) → List (K × X) → List (Event T)
entry_events events [] = []
entry_events events (e ∷ es) = entry_events events es ++ events e.0 e.1

-- the writes of what is under each key, at the sites of the keys
abbrev pub key_writes : {K T : Type 0} {R : K → K → Ordering} → (K → Site) → FinMap R T → List (Event T)
key_writes site values = entry_events (λ k x. write (site k) (sign x) ∷ []) (entries values)

-- the site of a key of offsets
abbrev pub place_site : Direction → EdgePlace → Site
place_site d p = at_offset d p.row p.col p.offset

abbrev pub default_writes : {T : Type 0} → Option T → List (Event T)
default_writes None = []
default_writes (Some x) = write the_default (sign x) ∷ []

-- a list of events that leaves exactly what is kept: all of it, put there
unfoldable pub writes_of : {T : Type 0} → State T → List (Event T)
writes_of state =
    default_writes state.default_value ++ (class_writes state.class_record classes
    ++ (entry_events vertical_line_set (entries state.vertical_lines) ++ (entry_events horizontal_line_set (entries state.horizontal_lines)
    ++ (key_writes at_spot state.cells ++ (key_writes (place_site Horizontal) state.horizontal_offsets ++ key_writes (place_site Vertical) state.vertical_offsets)))))
