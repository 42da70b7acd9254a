-- What the calls of the last events leave, slot by slot.
use Rattle.std.proofs.Common.{◌≡◌, ℕ, ◌+◌, ◌<◌, Bool, true, false, cond, not, ◌||◌, ◌&&◌, ◌==◌, Option, Some, None, List, [], ◌∷◌, ◌++◌, length, take, drop, get_or, filter, refl, sym, ap, ◌∙◌, subst, take-append-drop}
use Rattle.std.specs.List.{last_or}
use Rattle.std.specs.BTreeMap.{BTreeMap, Updates}
use Rattle.std.proofs.lemmas.List.{take_more, drop_more}
use Rattle.std.proofs.lemmas.List.Elements.{filter_map-append}
use Rattle.std.proofs.lemmas.List.Folds.{list_any-append}
use Rattle.std.proofs.lemmas.Bool.{or_parts}
use mathlib.Core.Bool.{or-false}
use Rattle.tabled_object.specs.declared.entity.Entity.{Entity}
use Rattle.tabled_object.specs.declared.entity.Entity.TheVariants.{Global, Column, Row, Cell}
use Rattle.tabled_object.specs.declared.position.Position.{Position}
use Rattle.tabled_object.specs.Entities.{covers}
use Rattle.tabled_settings.specs.Setting.{EntityEvent, covering, same_entity}
use Rattle.tabled_settings.specs.Live.{without, has_event}
use Rattle.tabled_settings.specs.Slots.{standing, place, emptied, event_at, later_of, IsOnce, entity_cmp, HasPlaces}
use Rattle.tabled_settings.specs.SameLaws.{entity_equiv}
use Rattle.tabled_settings.proofs.Entities.{equal_entities, entity_itself, found_entity}
use Rattle.tabled_settings.specs.Kinds.{is_marked, may_cover, AreMarked}
use Rattle.tabled_settings.specs.declared.kinds.EntityKinds.{EntityKinds}
use Rattle.tabled_settings.proofs.Placing.{Tells, place-none, place-push, place-emptied, standing-emptied, standing-push, standing-push_hole, length-emptied, IsOnce-filter, IsOnce-push, none_left, none_filtered, none_before, filter_all, place_or, place_alike, last_at}

pub entities_told : Tells same_entity
entities_told = record { equal = equal_entities; itself = entity_itself }

-- ---- one event more

module _ {V : Type 0} (slots after : List (Option (Entity × V))) (entity : Entity) (value : V) (once : IsOnce same_entity (standing slots)) (made : after ≡ emptied (place (same_entity entity) slots) slots ++ Some (entity, value) ∷ []) where
  pub standing-put : standing after ≡ filter (λ event. not (same_entity entity event.0)) (standing slots) ++ (entity, value) ∷ []
  standing-put =
      ap standing made ∙ standing-push (emptied (place (same_entity entity) slots) slots) (entity, value)
      ∙ ap (λ es. es ++ (entity, value) ∷ []) (standing-emptied entities_told entity slots once)

  pub once-put : IsOnce same_entity (standing after)
  once-put =
      subst (IsOnce same_entity) (sym standing-put)
      (IsOnce-push entities_told (filter (λ event. not (same_entity entity event.0)) (standing slots)) (entity, value) (IsOnce-filter entities_told (λ event. not (same_entity entity event.0)) (standing slots) once) (none_left (same_entity entity) (standing slots)))

  pub places-put : (places new : BTreeMap Entity ℕ) (n : ℕ) → HasPlaces places slots → n ≡ length slots → Updates entity_cmp places new entity (Some n) → HasPlaces new after
  places-put places new n has end updates other =
      updates.0 other
      ∙ (λ i. cond (found_entity entity other i) (Some (end i)) (has other i))
      ∙ either (same_entity other entity) refl
      ∙ sym (
      ap (place (same_entity other)) made ∙ place-push (same_entity other) (emptied (place (same_entity entity) slots) slots) (entity, value)
      ∙ (λ i. cond (same_entity other entity) (Some (length-emptied (place (same_entity entity) slots) slots i)) (place-emptied entities_told entity other slots once i)))
    where
      either : (b : Bool) → same_entity other entity ≡ b
          → cond b (Some (length slots)) (place (same_entity other) slots) ≡ cond b (Some (length slots)) (cond (same_entity entity other) None (place (same_entity other) slots))
      either true h = refl
      either false h = sym (ap (λ b. cond b None (place (same_entity other) slots)) (entity_equiv.symm entity other ∙ h))

-- the slots after: those before with a hole where the entity's event stood, and the new event at their end
pub slots_after : {V : Type 0} (slots reserved holed after : List (Option (Entity × V))) (before found : Option ℕ) (entity : Entity) (value : V)
    → reserved ≡ slots → before ≡ found → found ≡ place (same_entity entity) slots → holed ≡ emptied before reserved → after ≡ holed ++ Some (entity, value) ∷ []
    → after ≡ emptied (place (same_entity entity) slots) slots ++ Some (entity, value) ∷ []
slots_after slots reserved holed after before found entity value same was has hole pushed =
    pushed ∙ ap (λ all. all ++ Some (entity, value) ∷ []) (hole ∙ (λ i. emptied ((was ∙ has) i) (same i)))

-- ---- look-ups

-- an entity but the one of all cells covers a cell where it is the cell, its row or its column
covers_by_three : (cell : Position) (entity : Entity) → same_entity Global entity ≡ false
    → covers entity cell ≡ (same_entity (Cell cell.row cell.col) entity || (same_entity (Row cell.row) entity || same_entity (Column cell.col) entity))
covers_by_three cell Global h = absurd cc
covers_by_three cell (Column col) h = refl
covers_by_three cell (Row row) h = sym (or-false (cell.row == row))
covers_by_three cell (Cell row col) h = sym (or-false ((cell.row == row) && (cell.col == col)))

pub last_by_three : {T : Type 0} (slots : List (Option (EntityEvent T))) (cell : Position) → has_event Global (standing slots) ≡ false
    → last_or None (covering (standing slots) cell)
    ≡ event_at slots (later_of (place (same_entity (Cell cell.row cell.col)) slots) (later_of (place (same_entity (Row cell.row)) slots) (place (same_entity (Column cell.col)) slots)))
last_by_three slots cell no_global =
    last_at (λ entity. covers entity cell) slots
    ∙ ap (event_at slots) (
    place_alike (same_entity Global) (λ entity. covers entity cell) (λ e. same_entity (Cell cell.row cell.col) e || (same_entity (Row cell.row) e || same_entity (Column cell.col) e)) (covers_by_three cell) slots no_global
    ∙ sym (
    ap (later_of (place (same_entity (Cell cell.row cell.col)) slots)) (place_or (same_entity (Row cell.row)) (same_entity (Column cell.col)) slots)
    ∙ place_or (same_entity (Cell cell.row cell.col)) (λ e. same_entity (Row cell.row) e || same_entity (Column cell.col) e) slots))

-- none, where no entity that covers the cell is marked
pub last_unmarked : {T : Type 0} (kinds : EntityKinds) (slots : List (Option (EntityEvent T))) (cell : Position) → AreMarked kinds (standing slots) → may_cover kinds cell ≡ false → has_event Global (standing slots) ≡ false
    → last_or None (covering (standing slots) cell) ≡ None
last_unmarked kinds slots cell marked unmarked no_global =
    let each = or_parts (is_marked kinds (Column cell.col)) (is_marked kinds (Row cell.row) || is_marked kinds (Cell cell.row cell.col)) unmarked in
    let others = or_parts (is_marked kinds (Row cell.row)) (is_marked kinds (Cell cell.row cell.col)) each.1 in
    let none : (entity : Entity) → is_marked kinds entity ≡ false → place (same_entity entity) slots ≡ None = λ entity unmarked. place-none (same_entity entity) slots (marked entity unmarked) in
    last_by_three slots cell no_global
    ∙ (λ i. event_at slots (later_of (none (Cell cell.row cell.col) others.1 i) (later_of (none (Row cell.row) others.0 i) (none (Column cell.col) each.0 i))))

-- ---- copies

module _ {V : Type 0} (slots : List (Option (Entity × V))) (at : ℕ) (slot : Option (Entity × V)) (inside : at < length slots) (is : slot ≡ get_or slots at slot) where
  seen_more : take (at + 1) slots ≡ take at slots ++ slot ∷ []
  seen_more = take_more slots at slot inside ∙ ap (λ s. take at slots ++ s ∷ []) (sym is)

  pub copied_hole : slot ≡ None → standing (take (at + 1) slots) ≡ standing (take at slots)
  copied_hole hole = ap standing (seen_more ∙ ap (λ s. take at slots ++ s ∷ []) hole) ∙ standing-push_hole (take at slots)

  pub copied_event : (event : Entity × V) → slot ≡ Some event → IsOnce same_entity (standing slots)
      → standing (take (at + 1) slots) ≡ filter (λ other. not (same_entity event.0 other.0)) (standing (take at slots)) ++ event ∷ []
  copied_event event there once =
      let further : slots ≡ take at slots ++ Some event ∷ drop (at + 1) slots =
      sym (take-append-drop at slots) ∙ ap (λ rest. take at slots ++ rest) (drop_more slots at slot inside ∙ ap (λ s. s ∷ drop (at + 1) slots) (sym is ∙ there)) in
      let stand : standing slots ≡ standing (take at slots) ++ event ∷ standing (drop (at + 1) slots) =
      ap standing further ∙ filter_map-append (λ s. s) (take at slots) (Some event ∷ drop (at + 1) slots) in
      ap standing (seen_more ∙ ap (λ s. take at slots ++ s ∷ []) there) ∙ standing-push (take at slots) event
      ∙ ap (λ es. es ++ event ∷ []) (sym (filter_all (same_entity event.0) (standing (take at slots))
      (none_before entities_told (standing (take at slots)) event (standing (drop (at + 1) slots)) (subst (IsOnce same_entity) stand once))))

-- ---- all cells

other_than_global : (entity : Entity) → (entity ≡ Global → ⊥) → same_entity Global entity ≡ false
other_than_global Global h = absurd (h refl)
other_than_global entity h = refl

pub no_global : {T : Type 0} (entity : Entity) (value : Option T) (events new : List (EntityEvent T)) → (entity ≡ Global → ⊥) → has_event Global events ≡ false
    → new ≡ without entity events ++ (entity, value) ∷ [] → has_event Global new ≡ false
no_global entity value events new other none made =
    ap (has_event Global) made ∙ list_any-append (λ event. same_entity Global event.0) (without entity events) ((entity, value) ∷ [])
    ∙ (λ i. none_filtered (same_entity Global) (λ event. not (same_entity entity event.0)) events none i || (other_than_global entity other i || false))
