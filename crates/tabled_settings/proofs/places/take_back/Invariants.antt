use Rattle.std.proofs.Common.{◌≡◌, ◌≤◌, [], List, Option, take, length}
use Rattle.std.specs.BTreeMap.{IsEmpty}
use Rattle.tabled_object.specs.declared.entity.Entity.{Entity as Which}
use Rattle.tabled_settings.specs.Setting.{same_entity}
use Rattle.tabled_settings.specs.Slots.{standing, IsOnce, HasPlaces, after_puts, places_before}
use Rattle.tabled_settings.proofs.places.take_back.Given as goal

-- what was noted for the first events is still to be taken back
abbrev pub invariant-loop-left : goal.invariant-loop-left
invariant-loop-left g l = (l.left ≤ length l.before)
    × ((slots : List (Option (Which × Option g.row.T.Denot))) → IsOnce same_entity (standing slots)
    → l.before ≡ places_before slots (take (length l.before) l.events)
    → HasPlaces l.initial.places (after_puts slots (take (length l.before) l.events)) → HasPlaces l.places (after_puts slots (take l.left l.events)))
    × (l.before ≡ [] → IsEmpty l.initial.places → IsEmpty l.places)

abbrev pub decreases-loop-left : goal.decreases-loop-left
decreases-loop-left g l = l.left
