-- Events that stand in order, each at the likely place of its entity, so that no place is noted; and events that follow them.
use Rattle.std.proofs.Common.{◌≡◌, ◌⊎◌, ◌↔◌, inl, inr, ℕ, ◌<◌, ◌≤◌, suc, eqb, Bool, true, false, cond, Option, Some, None, List, [], ◌∷◌, ◌++◌, length, map, is_some, refl, sym, ap, ◌∙◌, subst, arith, append_assoc, IsTrue}
use Rattle.std.specs.BTreeMap.{BTreeMap, get, is_at, btree_map_len, IsEmpty}
use Rattle.std.specs.Map.{lookup}
use Rattle.std.specs.Option.{option_eq}
use Rattle.std.proofs.lemmas.Bool.{eqb-true}
use Rattle.std.proofs.lemmas.List.{nil_from_length}
use Rattle.std.proofs.lemmas.Option.{same_Some}
use Rattle.tabled_object.specs.declared.entity.Entity.{Entity}
use Rattle.tabled_settings.specs.Setting.{EntityEvent, same_entity}
use Rattle.tabled_settings.specs.Live.{put_each}
use Rattle.tabled_settings.specs.Slots.{standing, passes, place, emptied, event_at, IsOnce, entity_cmp, HasPlaces, HasFewHoles, IsInOrder, IsPlaced, IsHeld, likely_place, AreNext, after_put, after_puts, all_emptied, FollowInOrder, ArePlaced, IsNoted}
use Rattle.tabled_settings.proofs.Entities.{equal_entities, entity_itself, found_entity}
use Rattle.tabled_settings.proofs.Placing.{place-push, standing-push, at_its_place}
use Rattle.tabled_settings.proofs.InARow.{TakesBack, length-push, nothing_more, length-put, length-before, place_inside, placed_at_end, stands_now, has_its_place, taken_back, all_taken_back, once-puts, standing-puts, written_at_once}

-- ---- an empty map

pub empty_or_not : (places : BTreeMap Entity ℕ) → IsEmpty places ⊎ (IsEmpty places → ⊥)
empty_or_not places = by_entries places.entries refl
  where
    by_entries : (es : List (Entity × ℕ)) → places.entries ≡ es → IsEmpty places ⊎ (IsEmpty places → ⊥)
    by_entries [] is = inl is
    by_entries (e ∷ es) is = inr (λ none. let no : e ∷ es ≡ [] = sym is ∙ none in cc)

-- it has no place
pub no_place : (places : BTreeMap Entity ℕ) (which : Entity) → IsEmpty places → get entity_cmp places which ≡ None
no_place places which empty = ap (λ entries. lookup (is_at (entity_cmp which)) entries) empty

-- and one that has none is empty
pub no_entry : (places : BTreeMap Entity ℕ) → ((which : Entity) → get entity_cmp places which ≡ None) → IsEmpty places
no_entry places none = by_entries places.entries refl
  where
    by_entries : (es : List (Entity × ℕ)) → places.entries ≡ es → es ≡ []
    by_entries [] is = refl
    by_entries (e ∷ es) is =
        absurd (
        let here : get entity_cmp places e.0 ≡ Some e.1 = ap (λ all. lookup (is_at (entity_cmp e.0)) all) is ∙ ap (λ b. cond b (Some e.1) (lookup (is_at (entity_cmp e.0)) es)) (found_entity e.0 e.0 ∙ entity_itself e.0) in
        let no : get entity_cmp places e.0 ≡ None = none e.0 in
        cc)

either_none : (b : Bool) (p q : Option ℕ) → p ≡ None → q ≡ None → cond b p q ≡ None
either_none true p q no_p no_q = no_p
either_none false p q no_p no_q = no_q

-- whether a map is empty was told by how many entries it has
pub told_empty : (places : BTreeMap Entity ℕ) (told : Bool) → (IsTrue told ↔ (btree_map_len places ≡ 0)) → told ≡ true → IsEmpty places
told_empty places told answer said = nil_from_length places.entries (answer.0 said)

pub told_other : (places : BTreeMap Entity ℕ) (told : Bool) → (IsTrue told ↔ (btree_map_len places ≡ 0)) → told ≡ false → IsEmpty places → ⊥
told_other places told answer said empty = let other : told ≡ true = answer.1 (ap length empty) in cc

-- whether an entity's likely place is the end is told by a comparison
pub told_likely : (likely : Option ℕ) (at : ℕ) → option_eq eqb likely (Some at) ≡ true → likely ≡ Some at
told_likely None at h = absurd cc
told_likely (Some there) at h = ap Some (eqb-true there at h)

module _ {V : Type 0} where
  -- ---- where events stand is noted, or they stand in order

  pub placed_in_order : (places : BTreeMap Entity ℕ) (slots : List (Option (Entity × V))) → IsEmpty places → IsInOrder slots → IsPlaced places slots
  placed_in_order places slots empty order = record { in_order = λ _. order; noted = λ no. absurd (no empty) }

  pub placed_by_map : (places : BTreeMap Entity ℕ) (slots : List (Option (Entity × V))) → HasFewHoles slots → HasPlaces places slots → IsPlaced places slots
  placed_by_map places slots few has = record {
    in_order = λ empty. record {
      few_holes = few;
      likely = λ entity at stands. let none : place (same_entity entity) slots ≡ None = sym (has entity) ∙ no_place places entity empty in cc;
    };
    noted = λ _. has;
  }

  pub not_empty : (places : BTreeMap Entity ℕ) (slots : List (Option (Entity × V))) (which : Entity) → HasPlaces places slots → is_some (place (same_entity which) slots) ≡ true → IsEmpty places → ⊥
  not_empty places slots which has stands empty = let no : false ≡ true = sym (ap is_some (no_place places which empty)) ∙ ap is_some (has which) ∙ stands in cc

  pub placed_by_event : (places : BTreeMap Entity ℕ) (slots : List (Option (Entity × V))) (which : Entity) → HasPlaces places slots → is_some (place (same_entity which) slots) ≡ true → IsPlaced places slots
  placed_by_event places slots which has stands = record { in_order = λ empty. absurd (not_empty places slots which has stands empty); noted = λ _. has }

  -- an entity that does not stand at its likely place stands where the map has it
  pub found_else : (places : BTreeMap Entity ℕ) (slots : List (Option (Entity × V))) (entity : Entity) → IsPlaced places slots → passes (same_entity entity) (event_at slots (likely_place entity)) ≡ false
      → get entity_cmp places entity ≡ place (same_entity entity) slots
  found_else places slots entity placed not_there = by_map (empty_or_not places)
    where
      nowhere : IsInOrder slots → (p : Option ℕ) → place (same_entity entity) slots ≡ p → p ≡ None
      nowhere order None is = refl
      nowhere order (Some at) is =
          absurd (
          let there : passes (same_entity entity) (event_at slots (likely_place entity)) ≡ true = ap (λ p. passes (same_entity entity) (event_at slots p)) (order.likely entity at is) ∙ at_its_place (same_entity entity) slots at is in
          let no : false ≡ true = sym not_there ∙ there in
          cc)

      by_map : IsEmpty places ⊎ (IsEmpty places → ⊥) → get entity_cmp places entity ≡ place (same_entity entity) slots
      by_map (inl empty) = no_place places entity empty ∙ sym (nowhere (placed.in_order empty) (place (same_entity entity) slots) refl)
      by_map (inr some) = placed.noted some entity

  -- ---- an event that follows in order

  -- its entity has none yet
  pub none_yet : (slots : List (Option (Entity × V))) (entity : Entity) → IsInOrder slots → likely_place entity ≡ Some (length slots) → place (same_entity entity) slots ≡ None
  none_yet slots entity order next = by_place (place (same_entity entity) slots) refl
    where
      by_place : (p : Option ℕ) → place (same_entity entity) slots ≡ p → p ≡ None
      by_place None is = refl
      by_place (Some at) is =
          absurd (
          let inside : at < length slots = place_inside (same_entity entity) slots at is in
          let same : at ≡ length slots = same_Some _ _ (sym (order.likely entity at is) ∙ next) in
          omega arith)

  -- it is one more
  put_next : (slots : List (Option (Entity × V))) (event : Entity × V) → IsInOrder slots → likely_place event.0 ≡ Some (length slots) → after_put slots event ≡ slots ++ Some event ∷ []
  put_next slots event order next = ap (λ at. emptied at slots ++ Some event ∷ []) (none_yet slots event.0 order next)

  order_pushed : (slots : List (Option (Entity × V))) (event : Entity × V) → IsInOrder slots → likely_place event.0 ≡ Some (length slots) → IsInOrder (slots ++ Some event ∷ [])
  order_pushed slots event order next =
      let more : length (slots ++ Some event ∷ []) ≡ suc (length slots) = length-push slots (Some event) in
      let stand : length (standing (slots ++ Some event ∷ [])) ≡ suc (length (standing slots)) = ap length (standing-push slots event) ∙ length-push (standing slots) event in
      let few : HasFewHoles slots = order.few_holes in record {
        few_holes = omega arith;
        likely = λ entity at stands. by_entity entity at (same_entity entity event.0) refl (sym (place-push (same_entity entity) slots event) ∙ stands);
      }
    where
      by_entity : (entity : Entity) (at : ℕ) (b : Bool) → same_entity entity event.0 ≡ b → cond b (Some (length slots)) (place (same_entity entity) slots) ≡ Some at → likely_place entity ≡ Some at
      by_entity entity at true same is = ap likely_place (equal_entities entity event.0 same) ∙ next ∙ is
      by_entity entity at false other is = order.likely entity at is

  pub order_put : (slots : List (Option (Entity × V))) (event : Entity × V) → IsInOrder slots → likely_place event.0 ≡ Some (length slots) → IsInOrder (after_put slots event)
  order_put slots event order next = subst IsInOrder (sym (put_next slots event order next)) (order_pushed slots event order next)

  -- ---- events that follow in order

  next_after : (slots : List (Option (Entity × V))) (event : Entity × V) (events : List (Entity × V)) → AreNext (length slots) (event ∷ events) → AreNext (length (after_put slots event)) events
  next_after slots event events next = subst (λ n. AreNext n events) (sym (length-put slots event)) next.1

  order_puts : (slots : List (Option (Entity × V))) (events : List (Entity × V)) → IsInOrder slots → AreNext (length slots) events → IsInOrder (after_puts slots events)
  order_puts slots [] order next = order
  order_puts slots (event ∷ events) order next = order_puts (after_put slots event) events (order_put slots event order next.0) (next_after slots event events next)

  puts_next : (slots : List (Option (Entity × V))) (events : List (Entity × V)) → IsInOrder slots → AreNext (length slots) events → slots ++ map Some events ≡ after_puts slots events
  puts_next slots [] order next = nothing_more slots
  puts_next slots (event ∷ events) order next =
      sym (append_assoc slots (Some event ∷ []) (map Some events))
      ∙ ap (λ all. all ++ map Some events) (sym (put_next slots event order next.0))
      ∙ puts_next (after_put slots event) events (order_put slots event order next.0) (next_after slots event events next)

  -- ---- one event noted, and taken back

  pub back_again : (slots : List (Option (Entity × V))) (event : Entity × V) (noted new : BTreeMap Entity ℕ) (before : Option ℕ) → IsOnce same_entity (standing slots) → HasFewHoles slots
      → before ≡ place (same_entity event.0) slots → (IsEmpty noted → IsInOrder slots) → IsPlaced noted (after_put slots event)
      → ((is_some before ≡ true → is_some (get entity_cmp noted event.0) ≡ true) → (which : Entity) → get entity_cmp new which ≡ cond (same_entity which event.0) before (get entity_cmp noted which))
      → IsPlaced new slots
  back_again slots event noted new before once few was in_order placed back = by_map (empty_or_not noted)
    where
      by_map : IsEmpty noted ⊎ (IsEmpty noted → ⊥) → IsPlaced new slots
      by_map (inl empty) =
          let order : IsInOrder slots = in_order empty in
          let none : before ≡ None = was ∙ none_yet slots event.0 order ((placed.in_order empty).likely event.0 (length slots) (placed_at_end slots event)) in
          placed_in_order new slots
          (no_entry new (λ which. back (λ some. absurd (let no : false ≡ true = sym (ap is_some none) ∙ some in cc)) which
          ∙ either_none (same_entity which event.0) before (get entity_cmp noted which) none (no_place noted which empty))) order
      by_map (inr some) =
          let has : HasPlaces noted (after_put slots event) = placed.noted some in
          placed_by_map new slots few (taken_back slots event noted new before once has was (back (λ _. has_its_place slots event noted has)))

  -- ---- a list that was noted

  -- as many places were noted as there are events, or none
  pub all_noted : (slots : List (Option (Entity × V))) (events given : List (Entity × V)) (before : List (Option ℕ)) (places : BTreeMap Entity ℕ) → given ≡ events → IsNoted places slots given before → length before ≤ length events
  all_noted slots events given before places lent h = by_kind h.noted
    where
      by_kind : FollowInOrder places slots given before ⊎ ArePlaced places slots given before → length before ≤ length events
      by_kind (inl follow) = let none : length before ≡ 0 = ap length follow.none_before in omega arith
      by_kind (inr placed) = let all : length before ≡ length events = ap length placed.stood ∙ length-before slots given ∙ ap length lent in omega arith

  -- all of it is taken back
  pub given_back : (slots : List (Option (Entity × V))) (events given : List (Entity × V)) (before shown : List (Option ℕ)) (noted new : BTreeMap Entity ℕ) → given ≡ events → shown ≡ before
      → TakesBack given shown noted new → (shown ≡ [] → IsEmpty noted → IsEmpty new) → IsNoted noted slots events before → IsHeld new slots
  given_back slots events given before shown noted new lent seen back nothing h = (h.once, by_kind h.noted, h.few_holes)
    where
      by_kind : FollowInOrder noted slots events before ⊎ ArePlaced noted slots events before → IsPlaced new slots
      by_kind (inl follow) = placed_in_order new slots (nothing (seen ∙ follow.none_before) follow.nothing) follow.in_order
      by_kind (inr placed) = placed_by_map new slots h.few_holes (all_taken_back slots events given before shown noted new lent seen back h.once placed.stood placed.placed)

module _ {V : Type 0} where
  -- an event of those that were put stands somewhere
  some_stands : (slots : List (Option (Entity × V))) (event : Entity × V) (events : List (Entity × V)) → (which : Entity) × (is_some (place (same_entity which) (after_puts slots (event ∷ events))) ≡ true)
  some_stands slots event [] = (event.0, stands_now slots event)
  some_stands slots event (next ∷ events) = some_stands (after_put slots event) next events

  -- their places are noted, or they stand in order
  pub placed_puts : (places : BTreeMap Entity ℕ) (slots : List (Option (Entity × V))) (events : List (Entity × V)) → HasFewHoles slots → HasPlaces places (after_puts slots events) → IsPlaced places (after_puts slots events)
  placed_puts places slots [] few has = placed_by_map places slots few has
  placed_puts places slots (event ∷ events) few has =
      let stands = some_stands slots event events in
      placed_by_event places (after_puts slots (event ∷ events)) stands.0 has stands.1

  noted_puts : (places : BTreeMap Entity ℕ) (slots : List (Option (Entity × V))) (events : List (Entity × V)) (before : List (Option ℕ)) → IsNoted places slots events before → IsPlaced places (after_puts slots events)
  noted_puts places slots events before h = by_kind h.noted
    where
      by_kind : FollowInOrder places slots events before ⊎ ArePlaced places slots events before → IsPlaced places (after_puts slots events)
      by_kind (inl follow) = placed_in_order places (after_puts slots events) follow.nothing (order_puts slots events follow.in_order follow.next)
      by_kind (inr placed) = placed_puts places slots events h.few_holes placed.placed

  emptied_so : (places : BTreeMap Entity ℕ) (slots : List (Option (Entity × V))) (events : List (Entity × V)) (before : List (Option ℕ)) → IsNoted places slots events before → all_emptied before (slots ++ map Some events) ≡ after_puts slots events
  emptied_so places slots events before h = by_kind h.noted
    where
      by_kind : FollowInOrder places slots events before ⊎ ArePlaced places slots events before → all_emptied before (slots ++ map Some events) ≡ after_puts slots events
      by_kind (inl follow) = ap (λ at. all_emptied at (slots ++ map Some events)) follow.none_before ∙ puts_next slots events follow.in_order follow.next
      by_kind (inr placed) = ap (λ at. all_emptied at (slots ++ map Some events)) placed.stood ∙ written_at_once slots events

module _ {T : Type 0} where
  -- all of it is written
  pub written : (slots after : List (Option (EntityEvent T))) (events : List (EntityEvent T)) (before shown : List (Option ℕ)) (noted : BTreeMap Entity ℕ) → IsNoted noted slots events before
      → shown ≡ before → after ≡ all_emptied shown (slots ++ map Some events)
      → (IsOnce same_entity (standing after) × IsPlaced noted after) × (standing after ≡ put_each (standing slots) events)
  written slots after events before shown noted h seen made =
      let all : after ≡ after_puts slots events = made ∙ ap (λ places. all_emptied places (slots ++ map Some events)) seen ∙ emptied_so noted slots events before h in (
        subst (λ items. IsOnce same_entity (standing items) × IsPlaced noted items) (sym all) (once-puts slots events h.once, noted_puts noted slots events before h),
        ap standing all ∙ standing-puts slots events h.once,
      )
