use Rattle.std.proofs.Common.{◌≡◌, ◌≤◌, List, Option, take, length, vec_len, vec_capacity}
use Rattle.tabled_object.specs.declared.entity.Entity.{Entity as Which}
use Rattle.tabled_settings.specs.Setting.{same_entity}
use Rattle.tabled_settings.specs.Slots.{standing, IsOnce, HasPlaces, after_puts, places_before}
use Rattle.tabled_settings.proofs.places.note_in_turn.Given as goal

-- the events so far are noted, and there is room for the places of all
abbrev pub invariant-loop-at : goal.invariant-loop-at
invariant-loop-at g l = (vec_len l.before ≡ l.at) × (length l.events ≤ vec_capacity l.before) × ((slots : List (Option (Which × Option g.row.T.Denot))) → IsOnce same_entity (standing slots)
    → HasPlaces l.initial.places slots → length slots ≡ l.first
    → (l.before.items ≡ places_before slots (take l.at l.events)) × HasPlaces l.places (after_puts slots (take l.at l.events)))
