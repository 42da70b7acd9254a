-- Lists of writes: what they write, and what puts that back.
use Rattle.std.specs.Prelude.{◌≡◌, IsSome, if◌then◌else◌, Option, Some, None, option_map, List, [], ◌∷◌, filter_map}
use Rattle.std.specs.FinMap.{get}
use Rattle.tabled_places.specs.declared.writes.Target.{Target}
use Rattle.tabled_places.specs.declared.writes.Write.{Write}
use Rattle.tabled_places.specs.Site.{Horizontal, Vertical, Site, at_spot, at_offset, same_site}
use Rattle.tabled_places.specs.Event.{sign, Written, Event, write}
use Rattle.tabled_places.specs.State.{State, state_at, edge_place}
use Rattle.tabled_places.specs.Calls.{spot_of}

-- the site that a target names
abbrev pub site_of : Target → Site
site_of (Target.Cell place) = at_spot (spot_of place)
site_of (Target.Horizontal pos offset) = at_offset Horizontal pos.row pos.col offset
site_of (Target.Vertical pos offset) = at_offset Vertical pos.row pos.col offset

-- what is kept there
abbrev pub kept_at : {T : Type 0} → State T → Target → Option T
kept_at state (Target.Cell place) = get state.cells (spot_of place)
kept_at state (Target.Horizontal pos offset) = get state.horizontal_offsets (edge_place pos.row pos.col offset)
kept_at state (Target.Vertical pos offset) = get state.vertical_offsets (edge_place pos.row pos.col offset)

-- a value written at a target, where both are given
abbrev pub given_event : {T : Type 0} → Option Target → Option T → Option (Event T)
given_event (Some target) (Some value) = Some (write (site_of target) (sign value))
given_event (Some target) None = None
given_event None value = None

-- the events of a list of writes, in its order
unfoldable pub writes_made : {T : Type 0} → List (Write T) → List (Event T)
writes_made writes = filter_map (λ entry. given_event entry.target entry.value) writes

-- what follows is cited by private calls alone

-- something stands at the site now, and with what stood there before in its place the new store is the old one
unfoldable pub PutsBackAt : {T : Type 0} → Site → Option T → State T → State T → Type 0
PutsBackAt site before old new =
    IsSome (state_at new site) × ((q : Site) → state_at old q ≡ (if same_site q site then option_map sign before else state_at new q))

-- a write that was made, with what stood there before in place of its value; one without a target wrote nothing
abbrev pub PutsBack : {T : Type 0} → Option Target → Option T → State T → State T → Type 0
PutsBack None before old new = new ≡ old
PutsBack (Some target) before old new = PutsBackAt (site_of target) before old new

-- a list of them, in the order in which they were made
unfoldable pub PutsBackAll : {T : Type 0} → List (Write T) → State T → State T → Type 0
PutsBackAll [] old new = new ≡ old
PutsBackAll {T = T} (entry ∷ entries) old new =
    (between : State T) × PutsBack entry.target entry.value old between × PutsBackAll entries between new

-- what stood before still stands, or something in its place
unfoldable pub Stays : {T : Type 0} → (Site → Option (Written T)) → (Site → Option (Written T)) → Type 0
Stays old new = (q : Site) → new q ≡ None → old q ≡ None
