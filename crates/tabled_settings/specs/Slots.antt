-- How an entity map keeps its events: in slots, in their order, with holes, and for each entity the place of its event.
use Rattle.std.specs.Prelude.{◌≡◌, ◌≤◌, ◌*◌, ◌⊎◌, length, ℕ, suc, max, slice_get, slice_set, option_and_then, Bool, true, false, Option, Some, None, List, [], ◌∷◌, ◌++◌}
use Rattle.std.specs.List.{filter_map, list_any}
use Rattle.std.specs.BTreeMap.{BTreeMap, get, IsEmpty}
use Rattle.std.specs.declared.cmp.Ordering.{Ordering}
use Rattle.tabled_object.specs.declared.entity.Entity.{Entity}
use Rattle.tabled_object.specs.declared.entity.Entity.TheVariants.{Global, Column, Row, Cell}
use Rattle.tabled_object.specs.contracts.entity.EntityOrd.TheImpl.{cmp-value}
use Rattle.tabled_settings.specs.Setting.{same_entity}

-- what stands in the slots, in order
abbrev pub standing : {A : Type 0} → List (Option A) → List A
standing slots = filter_map (λ slot. slot) slots

-- a place one slot further on; or here, if this one passes and none after it does
abbrev pub behind : Option ℕ → Bool → Option ℕ
behind (Some place) passes = Some (suc place)
behind None true = Some 0
behind None false = None

abbrev pub passes : {K V : Type 0} → (K → Bool) → Option (K × V) → Bool
passes test None = false
passes test (Some event) = test event.0

-- where the last event stands whose key passes the test
abbrev pub place : {K V : Type 0} → (K → Bool) → List (Option (K × V)) → Option ℕ
place test [] = None
place test (slot ∷ slots) = behind (place test slots) (passes test slot)

-- these slots with a hole at a place, if there is one
abbrev pub emptied : {A : Type 0} → Option ℕ → List (Option A) → List (Option A)
emptied None slots = slots
emptied (Some place) slots = slice_set slots place None

-- what stands at a place, if there is one
abbrev pub event_at : {A : Type 0} → List (Option A) → Option ℕ → Option A
event_at slots None = None
event_at slots (Some place) = option_and_then (λ slot. slot) (slice_get slots place)

-- the later of two places, where there are such
abbrev pub later_of : Option ℕ → Option ℕ → Option ℕ
later_of None other = other
later_of (Some place) None = Some place
later_of (Some place) (Some other) = Some (max place other)

-- no key has two events
abbrev pub IsOnce : {K V : Type 0} → (K → K → Bool) → List (K × V) → Type 0
IsOnce same [] = Unit {0}
IsOnce same (event ∷ events) = (list_any (λ other. same event.0 other.0) events ≡ false) × IsOnce same events

-- the order of the entities
abbrev pub entity_cmp : Entity → Entity → Ordering
entity_cmp a b = cmp-value.it a b

-- the map has for each entity the place of its event
abbrev pub HasPlaces : {V : Type 0} → BTreeMap Entity ℕ → List (Option (Entity × V)) → Type 0
HasPlaces places slots = (entity : Entity) → get entity_cmp places entity ≡ place (same_entity entity) slots

-- there are at most as many holes as events
abbrev pub HasFewHoles : {A : Type 0} → List (Option A) → Type 0
HasFewHoles slots = length slots ≤ 2 * length (standing slots)

-- where the event of an entity stands if those of rows, or of columns, come in their order and before any others
abbrev pub likely_place : Entity → Option ℕ
likely_place Global = None
likely_place (Column col) = Some col
likely_place (Row row) = Some row
likely_place (Cell row col) = None

-- each event stands at the likely place of its entity, and there are few holes
pub record IsInOrder {V : Type 0} (slots : List (Option (Entity × V))) : Type 0 where
  pub few_holes : HasFewHoles slots
  pub likely : (entity : Entity) (at : ℕ) → place (same_entity entity) slots ≡ Some at → likely_place entity ≡ Some at

-- the map is empty while the events stand in order, and else has for each entity the place of its event
pub record IsPlaced {V : Type 0} (places : BTreeMap Entity ℕ) (slots : List (Option (Entity × V))) : Type 0 where
  pub in_order : IsEmpty places → IsInOrder slots
  pub noted : (IsEmpty places → ⊥) → HasPlaces places slots

-- each entity has one event, and its place, and there are few holes
abbrev pub IsHeld : {V : Type 0} → BTreeMap Entity ℕ → List (Option (Entity × V)) → Type 0
IsHeld places slots = IsOnce same_entity (standing slots) × IsPlaced places slots × HasFewHoles slots

-- ---- one event after the other

-- a hole where the event of its entity stood, and the event at the end
abbrev pub after_put : {V : Type 0} → List (Option (Entity × V)) → Entity × V → List (Option (Entity × V))
after_put slots event = emptied (place (same_entity event.0) slots) slots ++ Some event ∷ []

abbrev pub after_puts : {V : Type 0} → List (Option (Entity × V)) → List (Entity × V) → List (Option (Entity × V))
after_puts slots [] = slots
after_puts slots (event ∷ events) = after_puts (after_put slots event) events

-- where the event of each one's entity stood before
abbrev pub places_before : {V : Type 0} → List (Option (Entity × V)) → List (Entity × V) → List (Option ℕ)
places_before slots [] = []
places_before slots (event ∷ events) = place (same_entity event.0) slots ∷ places_before (after_put slots event) events

-- these slots with holes at the places that there are
abbrev pub all_emptied : {A : Type 0} → List (Option ℕ) → List (Option A) → List (Option A)
all_emptied [] slots = slots
all_emptied (at ∷ places) slots = all_emptied places (emptied at slots)

-- events that come one after the other, the first of them at a place, come each at the likely place of its entity
abbrev pub AreNext : {V : Type 0} → ℕ → List (Entity × V) → Type 0
AreNext place [] = Unit {0}
AreNext place (event ∷ events) = (likely_place event.0 ≡ Some place) × AreNext (suc place) events

-- these events follow in order those that stand in order, so that nothing is noted of them
pub record FollowInOrder {V : Type 0} (places : BTreeMap Entity ℕ) (slots : List (Option (Entity × V))) (events : List (Entity × V)) (before : List (Option ℕ)) : Type 0 where
  pub nothing : IsEmpty places
  pub none_before : before ≡ []
  pub in_order : IsInOrder slots
  pub next : AreNext (length slots) events

-- the map has for each entity the place that its event will have once these are put
pub record ArePlaced {V : Type 0} (places : BTreeMap Entity ℕ) (slots : List (Option (Entity × V))) (events : List (Entity × V)) (before : List (Option ℕ)) : Type 0 where
  pub stood : before ≡ places_before slots events
  pub placed : HasPlaces places (after_puts slots events)

-- the slots hold no event of these yet, and where they will stand is noted
pub record IsNoted {V : Type 0} (places : BTreeMap Entity ℕ) (slots : List (Option (Entity × V))) (events : List (Entity × V)) (before : List (Option ℕ)) : Type 0 where
  pub once : IsOnce same_entity (standing slots)
  pub few_holes : HasFewHoles slots
  pub noted : FollowInOrder places slots events before ⊎ ArePlaced places slots events before
