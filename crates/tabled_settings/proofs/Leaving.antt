-- The events that still count make an entity map what it is.
use Rattle.std.proofs.Common.{◌≡◌, false, not, Option, List, [], ◌∷◌, ◌++◌, refl, sym, ap, ◌∙◌, subst, append_assoc}
use Rattle.std.specs.List.{list_any}
use Rattle.tabled_object.specs.declared.entity.Entity.{Entity}
use Rattle.tabled_object.specs.declared.entity.Entity.TheVariants.{Global, Column, Row, Cell}
use Rattle.tabled_settings.specs.Setting.{EntityEvent, same_entity}
use Rattle.tabled_settings.specs.Live.{Live, at_first, without, has_event, after, after_all, events_left}
use Rattle.tabled_settings.specs.Slots.{IsOnce}
use Rattle.tabled_settings.proofs.Placing.{IsOnce-filter, IsOnce-push, none_left, none_before, filter_all, neither}
use Rattle.tabled_settings.proofs.Lasting.{entities_told, no_global}

-- two lists in a row
pub after_all-append : {T : Type 0} (live : Live T) (es fs : List (EntityEvent T)) → after_all live (es ++ fs) ≡ after_all (after_all live es) fs
after_all-append live [] fs = refl
after_all-append live (e ∷ es) fs = after_all-append (after live e) es fs

module _ {T : Type 0} (default : T) where
  -- as events leave it: it has that default, and no entity has two of the events since the last one of all cells
  record Kept (live : Live T) : Type 0 where
    by_default : live.default ≡ default
    others : has_event Global live.since ≡ false
    once : IsOnce same_entity live.since

  with_one : (live : Live T) (entity : Entity) (value : Option T) → (entity ≡ Global → ⊥) → Kept live → Kept (record live { since = without entity live.since ++ (entity, value) ∷ [] })
  with_one live entity value other kept = record {
    by_default = kept.by_default;
    others = no_global entity value live.since (without entity live.since ++ (entity, value) ∷ []) other kept.others refl;
    once = IsOnce-push entities_told (without entity live.since) (entity, value) (IsOnce-filter entities_told (λ event. not (same_entity entity event.0)) live.since kept.once) (none_left (same_entity entity) live.since);
  }

  kept_after : (live : Live T) (event : EntityEvent T) → Kept live → Kept (after live event)
  kept_after live (Global, value) kept = record { by_default = kept.by_default; others = refl; once = tt }
  kept_after live (Column col, value) kept = with_one live (Column col) value (λ is. absurd cc) kept
  kept_after live (Row row, value) kept = with_one live (Row row) value (λ is. absurd cc) kept
  kept_after live (Cell row col, value) kept = with_one live (Cell row col) value (λ is. absurd cc) kept

  kept_after_all : (live : Live T) (events : List (EntityEvent T)) → Kept live → Kept (after_all live events)
  kept_after_all live [] kept = kept
  kept_after_all live (event ∷ events) kept = kept_after_all (after live event) events (kept_after live event kept)

  -- an event of an entity that had none is one more
  one_more : (live : Live T) (event : EntityEvent T) → same_entity Global event.0 ≡ false → list_any (λ other. same_entity event.0 other.0) live.since ≡ false → after live event ≡ record live { since = live.since ++ event ∷ [] }
  one_more live (Global, value) other none = absurd cc
  one_more live (Column col, value) other none = λ i. record live { since = filter_all (same_entity (Column col)) live.since none i ++ (Column col, value) ∷ [] }
  one_more live (Row row, value) other none = λ i. record live { since = filter_all (same_entity (Row row)) live.since none i ++ (Row row, value) ∷ [] }
  one_more live (Cell row col, value) other none = λ i. record live { since = filter_all (same_entity (Cell row col)) live.since none i ++ (Cell row col, value) ∷ [] }

  -- so events of as many entities are exactly as many more
  all_more : (live : Live T) (events : List (EntityEvent T)) → has_event Global events ≡ false → IsOnce same_entity (live.since ++ events) → after_all live events ≡ record live { since = live.since ++ events }
  all_more live [] others once = λ i. record live { since = sym (nothing_more live.since) i }
    where
      nothing_more : (es : List (EntityEvent T)) → es ++ [] ≡ es
      nothing_more [] = refl
      nothing_more (e ∷ es) = ap (λ rest. e ∷ rest) (nothing_more es)
  all_more live (event ∷ events) others once =
      let apart = neither (same_entity Global event.0) (has_event Global events) others in
      let pushed : Live T = record live { since = live.since ++ event ∷ [] } in
      ap (λ one. after_all one events) (one_more live event apart.0 (none_before entities_told live.since event events once))
      ∙ all_more pushed events apart.1 (subst (IsOnce same_entity) (sym (append_assoc live.since (event ∷ []) events)) once)
      ∙ (λ i. record live { since = append_assoc live.since (event ∷ []) events i })

  -- after what is left of events the same is there as after all of them
  pub by_what_is_left : (events : List (EntityEvent T)) → after_all (at_first default) (events_left (after_all (at_first default) events)) ≡ after_all (at_first default) events
  by_what_is_left events =
      let live : Live T = after_all (at_first default) events in
      let kept = kept_after_all (at_first default) events (record { by_default = refl; others = refl; once = tt }) in
      all_more (record { default = default; global = live.global; since = [] }) live.since kept.others kept.once
      ∙ (λ i. record live { default = sym kept.by_default i })
