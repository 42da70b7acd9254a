-- What a map shows after any list of events has for each cell the value of the last event that covers it.
use Rattle.std.proofs.Common.{◌≡◌, Bool, true, false, cond, not, Option, Some, None, List, [], ◌∷◌, ◌++◌, unwrap_or, option_map, option_and_then, refl, sym, ap, ◌∙◌}
use Rattle.std.specs.List.{last_or}
use Rattle.std.proofs.lemmas.List.Elements.{filter-append}
use Rattle.tabled_object.specs.declared.entity.Entity.{Entity}
use Rattle.tabled_object.specs.declared.entity.Entity.TheVariants.{Global, Column, Row, Cell}
use Rattle.tabled_object.specs.declared.position.Position.{Position}
use Rattle.tabled_object.specs.Entities.{covers}
use Rattle.tabled_settings.specs.Setting.{EntityEvent, write_of, covering, setting, same_entity}
use Rattle.tabled_settings.specs.Live.{Live, at_first, without, after, after_all, value_at}
use Rattle.tabled_settings.proofs.Entities.{equal_entities}

module _ {T : Type 0} (cell : Position) where
  -- events of an entity that does not cover the cell play no part
  covering-without : (entity : Entity) (events : List (EntityEvent T)) → covers entity cell ≡ false → covering (without entity events) cell ≡ covering events cell
  covering-without entity [] h = refl
  covering-without entity (event ∷ events) h = one_more (same_entity entity event.0) refl (covering-without entity events h)
    where
      one_more : (b : Bool) → same_entity entity event.0 ≡ b → covering (without entity events) cell ≡ covering events cell
          → covering (cond (not b) (event ∷ without entity events) (without entity events)) cell ≡ covering (event ∷ events) cell
      one_more true same again =
          again ∙ sym (ap (λ b. cond b (event ∷ covering events cell) (covering events cell)) (ap (λ e. covers e cell) (sym (equal_entities entity event.0 same)) ∙ h))
      one_more false same again = ap (λ es. cond (covers event.0 cell) (event ∷ es) es) again

  last_or-push : (before : Option (EntityEvent T)) (events : List (EntityEvent T)) (event : EntityEvent T) → last_or before (events ++ event ∷ []) ≡ Some event
  last_or-push before [] event = refl
  last_or-push before (first ∷ events) event = last_or-push (Some first) events event

  append_nothing : (events : List (EntityEvent T)) → events ++ [] ≡ events
  append_nothing [] = refl
  append_nothing (event ∷ events) = ap (λ es. event ∷ es) (append_nothing events)

  -- an event of some of the cells, in place of an earlier one
  with_one : (live : Live T) (entity : Entity) (value : Option T)
      → setting (write_of Global live.global ∷ without entity live.since ++ (entity, value) ∷ []) live.default cell ≡ cond (covers entity cell) (unwrap_or value live.default) (value_at live cell)
  with_one live entity value =
      ap (λ es. left_by (last_or (Some (write_of Global live.global)) es)) (filter-append (λ e. covers e.0 cell) (without entity live.since) ((entity, value) ∷ []))
      ∙ by_cover (covers entity cell) refl
    where
      left_by : Option (EntityEvent T) → T
      left_by last = unwrap_or (option_and_then (λ e. e.1) last) live.default

      by_cover : (b : Bool) → covers entity cell ≡ b
          → left_by (last_or (Some (write_of Global live.global)) (covering (without entity live.since) cell ++ cond b ((entity, value) ∷ []) [])) ≡ cond b (unwrap_or value live.default) (value_at live cell)
      by_cover true h = ap left_by (last_or-push (Some (write_of Global live.global)) (covering (without entity live.since) cell) (entity, value))
      by_cover false h = ap (λ es. left_by (last_or (Some (write_of Global live.global)) es)) (append_nothing (covering (without entity live.since) cell) ∙ covering-without entity live.since h)

  value_at-after : (live : Live T) (entity : Entity) (value : Option T) → value_at (after live (entity, value)) cell ≡ cond (covers entity cell) (unwrap_or value live.default) (value_at live cell)
  value_at-after live Global value = refl
  value_at-after live (Column col) value = with_one live (Column col) value
  value_at-after live (Row row) value = with_one live (Row row) value
  value_at-after live (Cell row col) value = with_one live (Cell row col) value

  -- the value that the last event gives, or the one before, if there is none
  abbrev given : T → T → Option (EntityEvent T) → T
  given default before None = before
  given default before (Some event) = unwrap_or event.1 default

  some_last : (default a b : T) (event : EntityEvent T) (events : List (EntityEvent T)) → given default a (last_or (Some event) events) ≡ given default b (last_or (Some event) events)
  some_last default a b event [] = refl
  some_last default a b event (next ∷ events) = some_last default a b next events

  one_before : (default before : T) (event : EntityEvent T) (events : List (EntityEvent T)) → given default (unwrap_or event.1 default) (last_or None events) ≡ given default before (last_or (Some event) events)
  one_before default before event [] = refl
  one_before default before event (next ∷ events) = some_last default (unwrap_or event.1 default) before next events

  value_at-after_all : (live : Live T) (events : List (EntityEvent T)) → value_at (after_all live events) cell ≡ given live.default (value_at live cell) (last_or None (covering events cell))
  value_at-after_all live [] = refl
  value_at-after_all live (event ∷ events) =
      value_at-after_all (after live event) events
      ∙ ap (λ v. given live.default v (last_or None (covering events cell))) (value_at-after live event.0 event.1)
      ∙ by_cover (covers event.0 cell)
    where
      by_cover : (b : Bool) → given live.default (cond b (unwrap_or event.1 live.default) (value_at live cell)) (last_or None (covering events cell)) ≡ given live.default (value_at live cell) (last_or None (cond b (event ∷ covering events cell) (covering events cell)))
      by_cover true = one_before live.default (value_at live cell) event (covering events cell)
      by_cover false = refl

  given_at_first : (default : T) (last : Option (EntityEvent T)) → given default default last ≡ unwrap_or (option_and_then (λ e. e.1) last) default
  given_at_first default None = refl
  given_at_first default (Some event) = refl

  pub value_is_the_setting : (default : T) (events : List (EntityEvent T)) → value_at (after_all (at_first default) events) cell ≡ setting events default cell
  value_is_the_setting default events = value_at-after_all (at_first default) events ∙ given_at_first default (last_or None (covering events cell))

-- a removal at the beginning changes nothing
pub after_removal : {T : Type 0} (cell : Position) (default : T) (entity : Entity) (events : List (EntityEvent T)) → setting ((entity, None) ∷ events) default cell ≡ setting events default cell
after_removal {T} cell default entity events = by_cover (covers entity cell)
  where
    with_value : Option (EntityEvent T) → T
    with_value last = unwrap_or (option_and_then (λ e. e.1) last) default

    removed_first : (es : List (EntityEvent T)) → with_value (last_or (Some (entity, None)) es) ≡ with_value (last_or None es)
    removed_first [] = refl
    removed_first (e ∷ es) = refl

    by_cover : (b : Bool) → with_value (last_or None (cond b ((entity, None) ∷ covering events cell) (covering events cell))) ≡ with_value (last_or None (covering events cell))
    by_cover true = removed_first (covering events cell)
    by_cover false = refl

module _ {T : Type 0} (cell : Position) where
  -- what a look-up among the events since finds gives the value
  abbrev pub value_found : Live T → Option (Option T) → T
  value_found live None = live.global
  value_found live (Some value) = unwrap_or value live.default

  some_found : (before event : EntityEvent T) (events : List (EntityEvent T)) → last_or (Some event) events ≡ Some (unwrap_or (last_or (Some event) events) before)
  some_found before event [] = refl
  some_found before event (next ∷ events) = some_found before next events

  found_or_before : (before : EntityEvent T) (events : List (EntityEvent T)) → last_or (Some before) events ≡ Some (unwrap_or (last_or None events) before)
  found_or_before before [] = refl
  found_or_before before (next ∷ events) = some_found before next events

  given_by : (live : Live T) (last : Option (EntityEvent T)) → unwrap_or (unwrap_or last (write_of Global live.global)).1 live.default ≡ value_found live (option_map (λ event. event.1) last)
  given_by live None = refl
  given_by live (Some event) = refl

  pub value_at-found : (live : Live T) (found : Option (Option T)) → found ≡ option_map (λ event. event.1) (last_or None (covering live.since cell)) → value_found live found ≡ value_at live cell
  value_at-found live found is =
      ap (value_found live) is ∙ sym (given_by live (last_or None (covering live.since cell)))
      ∙ sym (ap (λ last. unwrap_or (option_and_then (λ event. event.1) last) live.default) (found_or_before (write_of Global live.global) (covering live.since cell)))
