-- Events of entities that rise, noted at once where no places were noted yet.
use Rattle.std.proofs.Common.{◌≡◌, ℕ, ◌+◌, suc, Bool, true, false, cond, Option, Some, None, List, [], ◌∷◌, length, get_or, replicate, refl, sym, ap, ◌∙◌, arith, Less, Ordering, Greater, Equal, IsTrue, ◌↔◌}
use Rattle.std.specs.BTreeMap.{BTreeMap, IsEmpty, IsFromIterResult}
use Rattle.std.specs.List.{AllByRecursion, IsAllAdjacentAnswer, range_with_len, zip}
use Rattle.std.specs.List.Sorted.{IsStrictlySortedBy}
use Rattle.std.specs.Map.{keys_of, update_all}
use Rattle.std.specs.Ordering.{is_eq, is_lt, eq_by_cmp}
use Rattle.std.proofs.Math.ListN.{get_or-map}
use Rattle.std.proofs.lemmas.List.{length-map}
use Rattle.std.proofs.lemmas.Map.Keys.{sorted_head, sorted_tail, sorted_from_all_adjacent, Less-from_sorted}
use Rattle.tabled_object.specs.declared.entity.Entity.{Entity}
use Rattle.tabled_object.specs.declared.entity.Entity.TheVariants.{Global}
use Rattle.tabled_object.specs.contracts.entity.EntityOrd.TheImpl.Laws.{total-law}
use Rattle.tabled_settings.specs.Setting.{same_entity}
use Rattle.tabled_settings.specs.Slots.{standing, place, emptied, entity_cmp, IsOnce, HasPlaces, after_put, after_puts, places_before}
use Rattle.tabled_settings.proofs.Entities.{found_entity}
use Rattle.tabled_settings.proofs.InARow.{length-put, once_put, others_stay}
use Rattle.tabled_settings.proofs.InOrder.{no_place}
use Rattle.tabled_settings.proofs.Placing.{place-push, length-emptied}

-- an entity that comes later is another
later_entity : (entity which : Entity) → entity_cmp entity which ≡ Less → same_entity which entity ≡ false
later_entity entity which later = sym (found_entity entity which) ∙ ap is_eq later

-- what holds of every entity holds of those of a list
holds_of_each : (P : Entity → Type 0) → ((which : Entity) → P which) → (entities : List Entity) → AllByRecursion P entities
holds_of_each P all [] = tt
holds_of_each P all (which ∷ entities) = (all which, holds_of_each P all entities)

module _ {V : Type 0} where
  -- an event that was put stands at the end, and the others where they stood
  place-put : (slots : List (Option (Entity × V))) (event : Entity × V) (which : Entity) → IsOnce same_entity (standing slots)
      → place (same_entity which) (after_put slots event) ≡ cond (same_entity which event.0) (Some (length slots)) (place (same_entity which) slots)
  place-put slots event which once = by_entity (same_entity which event.0) refl
    where
      by_entity : (b : Bool) → same_entity which event.0 ≡ b → place (same_entity which) (after_put slots event) ≡ cond b (Some (length slots)) (place (same_entity which) slots)
      by_entity true same =
          place-push (same_entity which) (emptied (place (same_entity event.0) slots) slots) event
          ∙ (λ i. cond (same i) (Some (length-emptied (place (same_entity event.0) slots) slots i)) (place (same_entity which) (emptied (place (same_entity event.0) slots) slots)))
      by_entity false other = others_stay slots event which once other

  -- what is noted of the events one after the other is where they stand in the end
  noted_in_turn : (noted : Entity → Option ℕ) (slots : List (Option (Entity × V))) (events : List (Entity × V)) (first : ℕ) → IsOnce same_entity (standing slots) → length slots ≡ first
      → ((which : Entity) → noted which ≡ place (same_entity which) slots)
      → (which : Entity) → update_all (eq_by_cmp entity_cmp) noted (zip (keys_of events) (range_with_len first (length events))) which ≡ place (same_entity which) (after_puts slots events)
  noted_in_turn noted slots [] first once end has which = has which
  noted_in_turn noted slots (event ∷ events) first once end has which =
      noted_in_turn (λ q. cond (eq_by_cmp entity_cmp event.0 q) (Some first) (noted q)) (after_put slots event) events (first + 1) (once_put slots event once) (length-put slots event ∙ ap suc end ∙ omega arith)
      (λ q. (λ i. cond (found_entity event.0 q i) (Some (sym end i)) (has q i)) ∙ sym (place-put slots event q once)) which

  -- the map that is made of them has their places
  pub made_at_once : (made old : BTreeMap Entity ℕ) (slots : List (Option (Entity × V))) (events : List (Entity × V)) (first : ℕ) → IsEmpty old
      → IsFromIterResult entity_cmp (zip (keys_of events) (range_with_len first (length events))) made → IsOnce same_entity (standing slots) → HasPlaces old slots → length slots ≡ first
      → HasPlaces made (after_puts slots events)
  made_at_once made old slots events first empty from once has end which =
      from.0 which ∙ noted_in_turn (λ q. None) slots events first once end (λ q. sym (no_place old q empty) ∙ has q) which

  -- an event that was put gives those that come later no place
  still_none : (slots : List (Option (Entity × V))) (event : Entity × V) (entities : List Entity) → IsOnce same_entity (standing slots) → AllByRecursion (λ which. entity_cmp event.0 which ≡ Less) entities
      → AllByRecursion (λ which. place (same_entity which) slots ≡ None) entities → AllByRecursion (λ which. place (same_entity which) (after_put slots event) ≡ None) entities
  still_none slots event [] once later none = tt
  still_none slots event (which ∷ entities) once later none =
      (others_stay slots event which once (later_entity event.0 which later.0) ∙ none.0, still_none slots event entities once later.1 none.1)

  -- entities that rise and have no place yet have none before their events
  none_stood : (slots : List (Option (Entity × V))) (events : List (Entity × V)) → IsOnce same_entity (standing slots) → IsStrictlySortedBy entity_cmp (keys_of events)
      → AllByRecursion (λ which. place (same_entity which) slots ≡ None) (keys_of events) → places_before slots events ≡ replicate (length events) None
  none_stood slots [] once rising none = refl
  none_stood slots (event ∷ events) once rising none =
      λ i. none.0 i
      ∷ none_stood (after_put slots event) events (once_put slots event once) (sorted_tail entity_cmp event.0 (keys_of events) rising)
      (still_none slots event (keys_of events) once (sorted_head entity_cmp event.0 (keys_of events) rising) none.1) i

  -- so there is none where nothing was noted
  pub none_before_all : (old : BTreeMap Entity ℕ) (slots : List (Option (Entity × V))) (events : List (Entity × V)) → IsEmpty old → IsStrictlySortedBy entity_cmp (keys_of events)
      → IsOnce same_entity (standing slots) → HasPlaces old slots → places_before slots events ≡ replicate (length events) None
  none_before_all old slots events empty rising once has =
      none_stood slots events once rising (holds_of_each (λ which. place (same_entity which) slots ≡ None) (λ q. sym (has q) ∙ no_place old q empty) (keys_of events))

-- ---- whether entities rise

less : (o : Ordering) → true ≡ is_lt o → o ≡ Less
less Less h = refl
less Equal h = absurd cc
less Greater h = absurd cc

module _ {V : Type 0} where
  -- an event and the next compare as their entities do
  compared : (events : List (Entity × V)) (other : Entity × V) (at : ℕ)
      → entity_cmp (get_or (keys_of events) at other.0) (get_or (keys_of events) (at + 1) other.0) ≡ entity_cmp (get_or events at other).0 (get_or events (at + 1) other).0
  compared events other at = λ i. entity_cmp (get_or-map (λ event. event.0) events at other i) (get_or-map (λ event. event.0) events (at + 1) other i)

  by_neighbors : (events : List (Entity × V)) (other : Entity × V) (answer : Bool) → IsAllAdjacentAnswer (λ event next rises. rises ≡ is_lt (entity_cmp event.0 next.0)) events answer
      → IsTrue answer ↔ IsStrictlySortedBy entity_cmp (keys_of events)
  by_neighbors events other true each = (
    λ _. sorted_from_all_adjacent total-law (keys_of events) other.0 (λ at inside. compared events other at ∙ less _ (each at other (omega (arith, length-map events (λ event. event.0))))),
    λ _. refl,
  )
  by_neighbors events other false (at, inside, falls) = (
    λ h. absurd cc,
    λ rising. falls other
        ∙ ap is_lt (sym (compared events other at) ∙ Less-from_sorted entity_cmp (keys_of events) at (at + 1) other.0 rising (omega arith) (omega (arith, length-map events (λ event. event.0)))),
  )

  -- whether all entities rise is told by each event and the next
  pub rising-by_neighbors : (events : List (Entity × V)) (answer : Bool) → IsAllAdjacentAnswer (λ event next rises. rises ≡ is_lt (entity_cmp event.0 next.0)) events answer
      → IsTrue answer ↔ IsStrictlySortedBy entity_cmp (keys_of events)
  rising-by_neighbors [] true each = (λ _. sorted_from_all_adjacent total-law [] Global (λ at inside. absurd (omega arith)), λ _. refl)
  rising-by_neighbors [] false (at, inside, falls) = absurd (omega arith)
  rising-by_neighbors (event ∷ events) answer each = by_neighbors (event ∷ events) event answer each
