-- Events put one after the other: noted at once, written at once, or taken back.
use Rattle.std.proofs.Common.{◌≡◌, ℕ, ◌+◌, ◌<◌, ◌≤◌, zero, suc, Bool, true, false, cond, not, ◌||◌, Option, Some, None, List, [], ◌∷◌, ◌++◌, length, take, get_or, set, map, is_some, unwrap_or, refl, sym, ap, ◌∙◌, subst, arith, append_assoc}
use Rattle.std.specs.BTreeMap.{BTreeMap, get, Updates}
use Rattle.std.proofs.lemmas.List.{take_more, take_all, length-take-le}
use Rattle.std.proofs.lemmas.List.Folds.{list_any-append}
use Rattle.std.proofs.lemmas.Option.{same_Some}
use Rattle.tabled_object.specs.declared.entity.Entity.{Entity}
use Rattle.tabled_object.specs.declared.entity.Entity.TheVariants.{Global}
use Rattle.tabled_settings.specs.Setting.{EntityEvent, same_entity, is_global}
use Rattle.tabled_settings.specs.Live.{Live, without, put_each, after_all, has_event}
use Rattle.tabled_settings.specs.Slots.{standing, behind, passes, place, emptied, IsOnce, entity_cmp, HasPlaces, after_put, after_puts, places_before, all_emptied}
use Rattle.tabled_settings.specs.SameLaws.{entity_equiv}
use Rattle.tabled_settings.proofs.Entities.{equal_entities, entity_itself}
use Rattle.tabled_settings.proofs.Lasting.{entities_told, standing-put, once-put, places-put}
use Rattle.tabled_settings.proofs.Placing.{place-push, place-emptied, length-emptied, neither, none_filtered}

pub length-push : {A : Type 0} (items : List A) (item : A) → length (items ++ item ∷ []) ≡ suc (length items)
length-push [] item = refl
length-push (first ∷ items) item = ap suc (length-push items item)

set_before : {A : Type 0} (items more : List A) (at : ℕ) (item : A) → at < length items → set (items ++ more) at item ≡ set items at item ++ more
set_before [] more at item inside = absurd (omega arith)
set_before (first ∷ items) more zero item inside = refl
set_before (first ∷ items) more (suc at) item inside = ap (λ rest. first ∷ rest) (set_before items more at item (omega arith))

pub nothing_more : {A : Type 0} (items : List A) → items ++ [] ≡ items
nothing_more [] = refl
nothing_more (item ∷ items) = ap (λ rest. item ∷ rest) (nothing_more items)

-- one place more
pub emptied_more : {A : Type 0} (places : List (Option ℕ)) (at : Option ℕ) (slots : List (Option A)) → all_emptied (places ++ at ∷ []) slots ≡ emptied at (all_emptied places slots)
emptied_more [] at slots = refl
emptied_more (first ∷ places) at slots = emptied_more places at (emptied first slots)

module _ {V : Type 0} where
  -- ---- one more at the end

  pub puts-more : (slots : List (Option (Entity × V))) (events : List (Entity × V)) (event : Entity × V) → after_puts slots (events ++ event ∷ []) ≡ after_put (after_puts slots events) event
  puts-more slots [] event = refl
  puts-more slots (first ∷ events) event = puts-more (after_put slots first) events event

  pub before-more : (slots : List (Option (Entity × V))) (events : List (Entity × V)) (event : Entity × V)
      → places_before slots (events ++ event ∷ []) ≡ places_before slots events ++ place (same_entity event.0) (after_puts slots events) ∷ []
  before-more slots [] event = refl
  before-more slots (first ∷ events) event = ap (λ places. place (same_entity first.0) slots ∷ places) (before-more (after_put slots first) events event)

  pub length-before : (slots : List (Option (Entity × V))) (events : List (Entity × V)) → length (places_before slots events) ≡ length events
  length-before slots [] = refl
  length-before slots (event ∷ events) = ap suc (length-before (after_put slots event) events)

  pub length-put : (slots : List (Option (Entity × V))) (event : Entity × V) → length (after_put slots event) ≡ suc (length slots)
  length-put slots event = length-push (emptied (place (same_entity event.0) slots) slots) (Some event) ∙ ap suc (length-emptied (place (same_entity event.0) slots) slots)

  pub length-puts : (slots : List (Option (Entity × V))) (events : List (Entity × V)) → length (after_puts slots events) ≡ length slots + length events
  length-puts slots [] = omega arith
  length-puts slots (event ∷ events) = length-puts (after_put slots event) events ∙ ap (λ n. n + length events) (length-put slots event) ∙ omega arith

  -- ---- each entity has one event, and they stand in order

  pub once_put : (slots : List (Option (Entity × V))) (event : Entity × V) → IsOnce same_entity (standing slots) → IsOnce same_entity (standing (after_put slots event))
  once_put slots event once = once-put slots (after_put slots event) event.0 event.1 once refl

  pub once-puts : (slots : List (Option (Entity × V))) (events : List (Entity × V)) → IsOnce same_entity (standing slots) → IsOnce same_entity (standing (after_puts slots events))
  once-puts slots [] once = once
  once-puts slots (event ∷ events) once = once-puts (after_put slots event) events (once_put slots event once)

  -- ---- places

  -- an event more was noted
  pub noted_more : (slots : List (Option (Entity × V))) (events : List (Entity × V)) (event : Entity × V) (places new : BTreeMap Entity ℕ) (at : ℕ) → IsOnce same_entity (standing slots)
      → HasPlaces places (after_puts slots events) → at ≡ length slots + length events → Updates entity_cmp places new event.0 (Some at) → HasPlaces new (after_puts slots (events ++ event ∷ []))
  noted_more slots events event places new at once has end updates =
      subst (HasPlaces new) (sym (puts-more slots events event))
      (places-put (after_puts slots events) (after_put (after_puts slots events) event) event.0 event.1 (once-puts slots events once) refl places new at has (end ∙ sym (length-puts slots events)) updates)

  -- an event that was put stands at the end
  pub placed_at_end : (slots : List (Option (Entity × V))) (event : Entity × V) → place (same_entity event.0) (after_put slots event) ≡ Some (length slots)
  placed_at_end slots event =
      place-push (same_entity event.0) (emptied (place (same_entity event.0) slots) slots) event
      ∙ ap (λ b. cond b (Some (length (emptied (place (same_entity event.0) slots) slots))) (place (same_entity event.0) (emptied (place (same_entity event.0) slots) slots))) (entity_itself event.0)
      ∙ ap Some (length-emptied (place (same_entity event.0) slots) slots)

  pub stands_now : (slots : List (Option (Entity × V))) (event : Entity × V) → is_some (place (same_entity event.0) (after_put slots event)) ≡ true
  stands_now slots event = ap is_some (placed_at_end slots event)

  -- so its entity has a place
  pub has_its_place : (slots : List (Option (Entity × V))) (event : Entity × V) (places : BTreeMap Entity ℕ) → HasPlaces places (after_put slots event) → is_some (get entity_cmp places event.0) ≡ true
  has_its_place slots event places has = ap is_some (has event.0) ∙ stands_now slots event

  -- an event that was put moves no other entity's
  pub others_stay : (slots : List (Option (Entity × V))) (event : Entity × V) (which : Entity) → IsOnce same_entity (standing slots) → same_entity which event.0 ≡ false
      → place (same_entity which) (after_put slots event) ≡ place (same_entity which) slots
  others_stay slots event which once other =
      place-push (same_entity which) (emptied (place (same_entity event.0) slots) slots) event
      ∙ ap (λ b. cond b (Some (length (emptied (place (same_entity event.0) slots) slots))) (place (same_entity which) (emptied (place (same_entity event.0) slots) slots))) other
      ∙ place-emptied entities_told event.0 which slots once
      ∙ ap (λ b. cond b None (place (same_entity which) slots)) (entity_equiv.symm event.0 which ∙ other)

  -- one is taken back
  pub taken_back : (slots : List (Option (Entity × V))) (event : Entity × V) (places new : BTreeMap Entity ℕ) (before : Option ℕ) → IsOnce same_entity (standing slots)
      → HasPlaces places (after_put slots event) → before ≡ place (same_entity event.0) slots
      → ((which : Entity) → get entity_cmp new which ≡ cond (same_entity which event.0) before (get entity_cmp places which)) → HasPlaces new slots
  taken_back slots event places new before once has was back which = back which ∙ by_entity (same_entity which event.0) refl
    where
      by_entity : (b : Bool) → same_entity which event.0 ≡ b → cond b before (get entity_cmp places which) ≡ place (same_entity which) slots
      by_entity true same = was ∙ ap (λ e. place (same_entity e) slots) (sym (equal_entities which event.0 same))
      by_entity false other = has which ∙ others_stay slots event which once other

  -- ---- written at once

  -- where an event stands, a slot is
  pub place_inside : (test : Entity → Bool) (slots : List (Option (Entity × V))) (at : ℕ) → place test slots ≡ Some at → at < length slots
  place_inside test [] at h = absurd cc
  place_inside test (slot ∷ slots) at h = by_place (place test slots) (place_inside test slots) (passes test slot) h
    where
      by_place : (p : Option ℕ) → ((n : ℕ) → p ≡ Some n → n < length slots) → (here : Bool) → behind p here ≡ Some at → at < suc (length slots)
      by_place (Some further) inside here found =
          let closer : further < length slots = inside further refl in
          let same : suc further ≡ at = same_Some _ _ found in
          omega arith
      by_place None inside true found = let same : 0 ≡ at = same_Some _ _ found in omega arith
      by_place None inside false found = absurd cc

  emptied_before : (test : Entity → Bool) (slots more : List (Option (Entity × V))) → emptied (place test slots) (slots ++ more) ≡ emptied (place test slots) slots ++ more
  emptied_before test slots more = by_place (place test slots) refl
    where
      by_place : (p : Option ℕ) → place test slots ≡ p → emptied p (slots ++ more) ≡ emptied p slots ++ more
      by_place None is = refl
      by_place (Some at) is = set_before slots more at None (place_inside test slots at is)

  pub written_at_once : (slots : List (Option (Entity × V))) (events : List (Entity × V)) → all_emptied (places_before slots events) (slots ++ map Some events) ≡ after_puts slots events
  written_at_once slots [] = nothing_more slots
  written_at_once slots (event ∷ events) =
      ap (all_emptied (places_before (after_put slots event) events))
      (emptied_before (same_entity event.0) slots (Some event ∷ map Some events) ∙ sym (append_assoc (emptied (place (same_entity event.0) slots) slots) (Some event ∷ []) (map Some events)))
      ∙ written_at_once (after_put slots event) events

module _ {T : Type 0} where
  pub standing-puts : (slots : List (Option (EntityEvent T))) (events : List (EntityEvent T)) → IsOnce same_entity (standing slots) → standing (after_puts slots events) ≡ put_each (standing slots) events
  standing-puts slots [] once = refl
  standing-puts slots (event ∷ events) once =
      standing-puts (after_put slots event) events (once_put slots event once)
      ∙ ap (λ since. put_each since events) (standing-put slots (after_put slots event) event.0 event.1 once refl)

-- ---- one step of a loop

module _ {V : Type 0} where
  nth_before : (slots : List (Option (Entity × V))) (events : List (Entity × V)) (count left : ℕ) (event : Entity × V) (other : Option ℕ) → left < count → left < length events → event ≡ get_or events left event
      → get_or (places_before slots (take count events)) left other ≡ place (same_entity event.0) (after_puts slots (take left events))
  nth_before slots [] count left event other below inside is = absurd (omega arith)
  nth_before slots (first ∷ events) zero left event other below inside is = absurd (omega arith)
  nth_before slots (first ∷ events) (suc count) zero event other below inside is = ap (λ e. place (same_entity e.0) slots) (sym is)
  nth_before slots (first ∷ events) (suc count) (suc left) event other below inside is = nth_before (after_put slots first) events count left event other (omega arith) (omega arith) is

  -- the last of what was noted is taken back
  pub one_back : (slots : List (Option (Entity × V))) (events : List (Entity × V)) (before : List (Option ℕ)) (left : ℕ) (event : Entity × V) (other : Option ℕ) (places new : BTreeMap Entity ℕ)
      → left < length before → length before ≤ length events → event ≡ get_or events left event
      → ((is_some (get_or before left other) ≡ true → is_some (get entity_cmp places (get_or events left event).0) ≡ true)
      → (which : Entity) → get entity_cmp new which ≡ cond (same_entity which (get_or events left event).0) (get_or before left other) (get entity_cmp places which))
      → IsOnce same_entity (standing slots) → before ≡ places_before slots (take (length before) events)
      → HasPlaces places (after_puts slots (take (left + 1) events)) → HasPlaces new (after_puts slots (take left events))
  one_back slots events before left event other places new below inside is back once was has =
      let one : take (left + 1) events ≡ take left events ++ event ∷ [] = take_more events left event (omega arith) ∙ ap (λ e. take left events ++ e ∷ []) (sym is) in
      let put : HasPlaces places (after_put (after_puts slots (take left events)) event) = subst (HasPlaces places) (ap (after_puts slots) one ∙ puts-more slots (take left events) event) has in
      taken_back (after_puts slots (take left events)) event places new (get_or before left other) (once-puts slots (take left events) once) put
      (ap (λ all. get_or all left other) was ∙ nth_before slots events (length before) left event other below (omega arith) is)
      (subst (λ e. (is_some (get_or before left other) ≡ true → is_some (get entity_cmp places e.0) ≡ true) → (which : Entity) → get entity_cmp new which ≡ cond (same_entity which e.0) (get_or before left other) (get entity_cmp places which)) (sym is) back
      (λ _. has_its_place (after_puts slots (take left events)) event places put))

  -- one more is noted
  pub one_noted : (slots : List (Option (Entity × V))) (events : List (Entity × V)) (at first : ℕ) (event : Entity × V) (places new : BTreeMap Entity ℕ) (before after : List (Option ℕ)) (noted : Option ℕ)
      → at < length events → event ≡ get_or events at event → noted ≡ get entity_cmp places event.0 → Updates entity_cmp places new event.0 (Some (first + at)) → after ≡ before ++ noted ∷ []
      → IsOnce same_entity (standing slots) → length slots ≡ first → (before ≡ places_before slots (take at events)) × HasPlaces places (after_puts slots (take at events))
      → (after ≡ places_before slots (take (at + 1) events)) × HasPlaces new (after_puts slots (take (at + 1) events))
  one_noted slots events at first event places new before after noted inside is was updates pushed once end (so_far, has) =
      let one : take (at + 1) events ≡ take at events ++ event ∷ [] = take_more events at event inside ∙ ap (λ e. take at events ++ e ∷ []) (sym is) in
      let stands : first + at ≡ length slots + length (take at events) = sym (λ i. end i + length-take-le at events (omega arith) i) in (
        pushed ∙ (λ i. so_far i ++ (was ∙ has event.0) i ∷ []) ∙ sym (before-more slots (take at events) event) ∙ ap (places_before slots) (sym one),
        subst (λ all. HasPlaces new (after_puts slots all)) (sym one) (noted_more slots (take at events) event places new (first + at) once has stands updates),
      )

  -- what taking back does to the places
  abbrev pub TakesBack : List (Entity × V) → List (Option ℕ) → BTreeMap Entity ℕ → BTreeMap Entity ℕ → Type 0
  TakesBack given before noted new = (slots : List (Option (Entity × V))) → IsOnce same_entity (standing slots) → before ≡ places_before slots (take (length before) given)
      → HasPlaces noted (after_puts slots (take (length before) given)) → HasPlaces new slots

  -- where the events of a list would stand is taken back
  pub all_taken_back : (slots : List (Option (Entity × V))) (events given : List (Entity × V)) (before shown : List (Option ℕ)) (noted new : BTreeMap Entity ℕ) → given ≡ events → shown ≡ before
      → TakesBack given shown noted new → IsOnce same_entity (standing slots) → before ≡ places_before slots events → HasPlaces noted (after_puts slots events) → HasPlaces new slots
  all_taken_back slots events given before shown noted new lent seen back once stood placed =
      let was : shown ≡ places_before slots given = seen ∙ stood ∙ ap (places_before slots) (sym lent) in
      let all : given ≡ take (length shown) given = sym (take_all (length shown) given (let many : length shown ≡ length given = ap length was ∙ length-before slots given in omega arith)) in
      back slots once (was ∙ ap (places_before slots) all) (subst (λ list. HasPlaces noted (after_puts slots list)) (sym lent ∙ all) placed)

-- ---- events of which none is one of all cells

module _ {T : Type 0} where
  not_global : (event : EntityEvent T) (events : List (EntityEvent T)) → has_event Global (event ∷ events) ≡ false → (is_global event.0 ≡ false) × (has_event Global events ≡ false)
  not_global event events none = let each = neither (same_entity Global event.0) (has_event Global events) none in (entity_equiv.symm event.0 Global ∙ each.0, each.1)

  -- they are put in a row
  pub after_all-put_each : (live : Live T) (events : List (EntityEvent T)) → has_event Global events ≡ false → after_all live events ≡ record live { since = put_each live.since events }
  after_all-put_each live [] none = refl
  after_all-put_each live (event ∷ events) none =
      let each = not_global event events none in
      ap (λ first. after_all first events) (λ i. record {
        default = live.default;
        global = cond (each.0 i) (unwrap_or event.1 live.default) live.global;
        since = cond (each.0 i) [] (without event.0 live.since ++ event ∷ []);
      })
      ∙ after_all-put_each (record live { since = without event.0 live.since ++ event ∷ [] }) events each.1

  -- and none of them is one of all cells after that
  pub none_global : (since events : List (EntityEvent T)) → has_event Global since ≡ false → has_event Global events ≡ false → has_event Global (put_each since events) ≡ false
  none_global since [] has none = has
  none_global since (event ∷ events) has none =
      let each = neither (same_entity Global event.0) (has_event Global events) none in
      none_global (without event.0 since ++ event ∷ []) events
      (list_any-append (λ other. same_entity Global other.0) (without event.0 since) (event ∷ [])
      ∙ (λ i. none_filtered (same_entity Global) (λ other. not (same_entity event.0 other.0)) since has i || (each.0 i || false))) each.1

  -- a list of which none is one of all cells was put in a row
  pub put_in_a_row : (live : Live T) (since events : List (EntityEvent T)) → has_event Global live.since ≡ false → since ≡ put_each live.since events → has_event Global events ≡ false
      → (has_event Global since ≡ false) × (record live { since = since } ≡ after_all live events)
  put_in_a_row live since events has put none =
      (ap (has_event Global) put ∙ none_global live.since events has none, (λ i. record live { since = put i }) ∙ sym (after_all-put_each live events none))
