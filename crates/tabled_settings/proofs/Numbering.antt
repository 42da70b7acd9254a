-- The places of events noted anew, slot by slot.
use Rattle.std.proofs.Common.{◌≡◌, ℕ, ◌+◌, ◌<◌, zero, suc, Bool, true, false, cond, ◌||◌, Option, Some, None, List, [], ◌∷◌, ◌++◌, length, take, get_or, is_some, option_map, filter_map, append_assoc, Result, Ok, Err, OnOk, OnErr, refl, sym, ap, ◌∙◌, arith}
use Rattle.std.specs.BTreeMap.{BTreeMap, get, Updates, IsFromIterResult}
use Rattle.std.specs.List.{enumerate_from}
use Rattle.std.specs.Map.{update_all}
use Rattle.std.specs.Ordering.{eq_by_cmp}
use Rattle.std.proofs.lemmas.List.{take_more, length-take-le, length_push}
use Rattle.std.proofs.Math.Bool.{or-true}
use Rattle.tabled_object.specs.declared.entity.Entity.{Entity}
use Rattle.tabled_settings.specs.Setting.{same_entity}
use Rattle.tabled_settings.specs.Slots.{passes, place, entity_cmp, HasPlaces}
use Rattle.tabled_settings.proofs.Entities.{entity_itself, found_entity}
use Rattle.tabled_settings.proofs.InARow.{nothing_more}
use Rattle.tabled_settings.proofs.Placing.{is_behind, place-push, place-push_hole}

-- the place that was found, or the one before
abbrev pub noted : Option ℕ → Option ℕ → Option ℕ
noted (Some at) before = Some at
noted None before = before

is_noted : (p before : Option ℕ) → is_some before ≡ true → is_some (noted p before) ≡ true
is_noted (Some _) before h = refl
is_noted None before h = h

noted_here : (b : Bool) (at : ℕ) (p before : Option ℕ) → cond b (Some at) (noted p before) ≡ noted (cond b (Some at) p) before
noted_here true at p before = refl
noted_here false at p before = refl

-- a slot that has an event
placed_there : {K V : Type 0} (test : K → Bool) (slots : List (Option (K × V))) (at : ℕ) (slot : Option (K × V)) (event : K × V) → at < length slots → slot ≡ get_or slots at slot → slot ≡ Some event → test event.0 ≡ true → is_some (place test slots) ≡ true
placed_there test [] at slot event inside is there passed = absurd (omega arith)
placed_there test (first ∷ slots) zero slot event inside is there passed =
    is_behind (place test slots) (passes test first) ∙ ap (λ s. passes test s || is_some (place test slots)) (sym is ∙ there) ∙ ap (λ b. b || is_some (place test slots)) passed
placed_there test (first ∷ slots) (suc at) slot event inside is there passed =
    let again : is_some (place test slots) ≡ true = placed_there test slots at slot event (omega arith) is there passed in
    is_behind (place test slots) (passes test first) ∙ ap (λ b. passes test first || b) again ∙ or-true (passes test first)

module _ {V : Type 0} (slots : List (Option (Entity × V))) (before now : BTreeMap Entity ℕ) (at : ℕ) (slot : Option (Entity × V)) where
  -- of the slots so far the places are noted
  abbrev pub IsNoted : BTreeMap Entity ℕ → List (Option (Entity × V)) → Type 0
  IsNoted places seen = (entity : Entity) → get entity_cmp places entity ≡ noted (place (same_entity entity) seen) (get entity_cmp before entity)

  seen_more : at < length slots → slot ≡ get_or slots at slot → take (at + 1) slots ≡ take at slots ++ slot ∷ []
  seen_more inside is = take_more slots at slot inside ∙ ap (λ s. take at slots ++ s ∷ []) (sym is)

  pub noted_hole : at < length slots → slot ≡ get_or slots at slot → slot ≡ None → IsNoted now (take at slots) → IsNoted now (take (at + 1) slots)
  noted_hole inside is hole so_far entity =
      so_far entity
      ∙ ap (λ p. noted p (get entity_cmp before entity)) (sym (ap (place (same_entity entity)) (seen_more inside is ∙ ap (λ s. take at slots ++ s ∷ []) hole) ∙ place-push_hole (same_entity entity) (take at slots)))

  pub noted_event : {U E : Type 0} (event : Entity × V) (new : BTreeMap Entity ℕ) (result : Result U E) → at < length slots → slot ≡ get_or slots at slot → slot ≡ Some event
      → ((entity : Entity) → is_some (get entity_cmp before entity) ≡ is_some (place (same_entity entity) slots))
      → OnOk result (Updates entity_cmp now new event.0 (Some at))
      → OnErr result (get entity_cmp now event.0 ≡ None)
      → IsNoted now (take at slots) → IsNoted new (take (at + 1) slots)
  noted_event event new (Ok _) inside is there alike updates absent so_far entity =
      updates.0 entity
      ∙ (λ i. cond (found_entity event.0 entity i) (Some at) (so_far entity i))
      ∙ noted_here (same_entity entity event.0) at (place (same_entity entity) (take at slots)) (get entity_cmp before entity)
      ∙ ap (λ p. noted p (get entity_cmp before entity)) (sym (
      ap (place (same_entity entity)) (seen_more inside is ∙ ap (λ s. take at slots ++ s ∷ []) there)
      ∙ place-push (same_entity entity) (take at slots) event
      ∙ ap (λ n. cond (same_entity entity event.0) (Some n) (place (same_entity entity) (take at slots))) (length-take-le at slots (omega arith))))
  noted_event event new (Err _) inside is there alike updates absent so_far entity =
      let before_had : is_some (get entity_cmp before event.0) ≡ true = alike event.0 ∙ placed_there (same_entity event.0) slots at slot event inside is there (entity_itself event.0) in
      let had : is_some (get entity_cmp now event.0) ≡ true = ap is_some (so_far event.0) ∙ is_noted (place (same_entity event.0) (take at slots)) (get entity_cmp before event.0) before_had in
      absurd (let no : false ≡ true = sym (ap is_some absent) ∙ had in cc)

-- ---- all places at once

module _ {V : Type 0} where
  -- the entity of the event in a slot, with where the slot stands
  abbrev pub entity_at : ℕ × Option (Entity × V) → Option (Entity × ℕ)
  entity_at numbered = option_map (λ event. (event.0, numbered.0)) numbered.1

  noted_on : (noted : Entity → Option ℕ) (seen slots : List (Option (Entity × V))) (at : ℕ) → at ≡ length seen → ((which : Entity) → noted which ≡ place (same_entity which) seen)
      → (which : Entity) → update_all (eq_by_cmp entity_cmp) noted (filter_map entity_at (enumerate_from at slots)) which ≡ place (same_entity which) (seen ++ slots)
  noted_on noted seen [] at end has which = has which ∙ ap (place (same_entity which)) (sym (nothing_more seen))
  noted_on noted seen (None ∷ slots) at end has which =
      noted_on noted (seen ++ None ∷ []) slots (at + 1) (ap (λ n. n + 1) end ∙ sym (length_push seen None)) (λ q. has q ∙ sym (place-push_hole (same_entity q) seen)) which
      ∙ ap (place (same_entity which)) (append_assoc seen (None ∷ []) slots)
  noted_on noted seen (Some event ∷ slots) at end has which =
      noted_on (λ q. cond (eq_by_cmp entity_cmp event.0 q) (Some at) (noted q)) (seen ++ Some event ∷ []) slots (at + 1) (ap (λ n. n + 1) end ∙ sym (length_push seen (Some event)))
      (λ q. (λ i. cond (found_entity event.0 q i) (Some (end i)) (has q i)) ∙ sym (place-push (same_entity q) seen event)) which
      ∙ ap (place (same_entity which)) (append_assoc seen (Some event ∷ []) slots)

  -- a map that is made of the entities, slot by slot, has their places
  pub made_of_slots : (made : BTreeMap Entity ℕ) (slots : List (Option (Entity × V))) → IsFromIterResult entity_cmp (filter_map entity_at (enumerate_from 0 slots)) made → HasPlaces made slots
  made_of_slots made slots from which = from.0 which ∙ noted_on (λ q. None) [] slots 0 refl (λ q. refl) which
