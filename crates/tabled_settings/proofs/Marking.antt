-- Entities are marked as events are put: so one that is not marked need not be looked for.
use Rattle.std.proofs.Common.{◌≡◌, ◌==◌, ◌&&◌, arith, false, not, ◌||◌, Option, List, [], ◌∷◌, ◌++◌, take, length, get_or, ◌+◌, ◌<◌, ℕ, refl, sym, ap, ◌∙◌}
use Rattle.std.proofs.lemmas.Bool.Decides.{nat_tests}
use Rattle.std.proofs.lemmas.List.{take_more}
use Rattle.std.proofs.lemmas.List.Folds.{list_any-append}
use Rattle.tabled_object.specs.declared.entity.Entity.{Entity}
use Rattle.tabled_object.specs.declared.entity.Entity.TheVariants.{Global, Column, Row, Cell}
use Rattle.tabled_settings.specs.declared.kinds.EntityKinds.{EntityKinds}
use Rattle.tabled_settings.specs.declared.kinds.NumberRange.{NumberRange}
use Rattle.tabled_settings.specs.Setting.{EntityEvent, same_entity}
use Rattle.tabled_settings.specs.Live.{without, has_event, put_each}
use Rattle.tabled_settings.specs.Kinds.{is_between, is_marked, with_kind, with_kinds, with_number, AreMarked}
use Rattle.tabled_settings.specs.Slots.{standing}
use Rattle.tabled_settings.proofs.Placing.{none_filtered}

-- a number that is not in a range with another one was not in it before, and is not that one
not_with_number : (numbers : NumberRange) (n which : ℕ) → is_between (with_number numbers n) which ≡ false → (is_between numbers which ≡ false) × ((which == n) ≡ false)
not_with_number numbers n which h = (grind (arith, nat_tests, h), grind (arith, nat_tests, h))

-- what is not marked with an entity was not marked before, and is not that entity
not_with_kind : (kinds : EntityKinds) (entity which : Entity) → is_marked (with_kind kinds entity) which ≡ false → (is_marked kinds which ≡ false) × (same_entity which entity ≡ false)
not_with_kind kinds entity Global h = absurd cc
not_with_kind kinds (Column col) (Column other) h = not_with_number kinds.columns col other h
not_with_kind kinds (Row row) (Row other) h = not_with_number kinds.rows row other h
not_with_kind kinds (Cell row col) (Cell other another) h =
    let each = not_with_number kinds.cells row other h in
    (each.0, ap (λ same. same && (another == col)) each.1)
not_with_kind kinds entity which h = (h, refl)

module _ {T : Type 0} where
  one_marked : (kinds : EntityKinds) (since : List (EntityEvent T)) (event : EntityEvent T) → AreMarked kinds since → AreMarked (with_kind kinds event.0) (without event.0 since ++ event ∷ [])
  one_marked kinds since event marked which h =
      let each = not_with_kind kinds event.0 which h in
      list_any-append (λ other. same_entity which other.0) (without event.0 since) (event ∷ [])
      ∙ (λ i. none_filtered (same_entity which) (λ other. not (same_entity event.0 other.0)) since (marked which each.0) i || (each.1 i || false))

  all_marked : (kinds : EntityKinds) (since events : List (EntityEvent T)) → AreMarked kinds since → AreMarked (with_kinds kinds events) (put_each since events)
  all_marked kinds since [] marked = marked
  all_marked kinds since (event ∷ events) marked = all_marked (with_kind kinds event.0) (without event.0 since ++ event ∷ []) events (one_marked kinds since event marked)

  -- an event was put, and its kind is marked
  pub marked-put : (old new : EntityKinds) (since after : List (EntityEvent T)) (event : EntityEvent T) → AreMarked old since → new ≡ with_kind old event.0 → after ≡ without event.0 since ++ event ∷ [] → AreMarked new after
  marked-put old new since after event marked is made which h =
      ap (has_event which) made ∙ one_marked old since event marked which (ap (λ kinds. is_marked kinds which) (sym is) ∙ h)

  -- the events of a list were put, and their kinds are marked
  pub marked-puts : (old new : EntityKinds) (since after events given : List (EntityEvent T)) → AreMarked old since → new ≡ with_kinds old given → given ≡ events → after ≡ put_each since events → AreMarked new after
  marked-puts old new since after events given marked is lent made which h =
      ap (has_event which) made ∙ all_marked old since events marked which (ap (λ kinds. is_marked kinds which) (sym (is ∙ ap (with_kinds old) lent)) ∙ h)

  -- slots in which the same stands
  pub marked_alike : (kinds : EntityKinds) (slots now : List (Option (EntityEvent T))) → now ≡ slots → AreMarked kinds (standing slots) → AreMarked kinds (standing now)
  marked_alike kinds slots now same marked which h = ap (λ items. has_event which (standing items)) same ∙ marked which h

  -- one event more
  kinds-more : (kinds : EntityKinds) (events : List (EntityEvent T)) (event : EntityEvent T) → with_kinds kinds (events ++ event ∷ []) ≡ with_kind (with_kinds kinds events) event.0
  kinds-more kinds [] event = refl
  kinds-more kinds (first ∷ events) event = kinds-more (with_kind kinds first.0) events event

  pub marked_more : (kinds : EntityKinds) (events : List (EntityEvent T)) (at : ℕ) (event : EntityEvent T) → at < length events → event ≡ get_or events at event
      → with_kinds kinds (take (at + 1) events) ≡ with_kind (with_kinds kinds (take at events)) event.0
  marked_more kinds events at event inside is =
      ap (with_kinds kinds) (take_more events at event inside ∙ ap (λ e. take at events ++ e ∷ []) (sym is)) ∙ kinds-more kinds (take at events) event
