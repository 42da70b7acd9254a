-- What an entity map shows: of the events so far those that still count.
use Rattle.std.specs.Prelude.{Bool, not, if◌then◌else◌, Option, Some, None, List, [], ◌∷◌, ◌++◌, filter, unwrap_or}
use Rattle.std.specs.List.{list_any}
use Rattle.tabled_object.specs.declared.entity.Entity.{Entity}
use Rattle.tabled_object.specs.declared.entity.Entity.TheVariants.{Global}
use Rattle.tabled_object.specs.declared.position.Position.{Position}
use Rattle.tabled_settings.specs.Setting.{EntityEvent, write_of, setting, same_entity, is_global}

-- the default, the value of the last event of all cells, and of each other entity that had an event since then the last
-- one, in the order of these events
pub record Live (T : Type 0) : Type 0 where
  pub default : T
  pub global : T
  pub since : List (EntityEvent T)

-- nothing has happened
abbrev pub at_first : {T : Type 0} → T → Live T
at_first default = record { default = default; global = default; since = [] }

-- the given events without those of an entity
abbrev pub without : {T : Type 0} → Entity → List (EntityEvent T) → List (EntityEvent T)
without entity events = filter (λ event. not (same_entity entity event.0)) events

-- whether an entity has one of these events
abbrev pub has_event : {T : Type 0} → Entity → List (EntityEvent T) → Bool
has_event entity events = list_any (λ event. same_entity entity event.0) events

-- the events of a list, each in place of an earlier one of its entity
abbrev pub put_each : {T : Type 0} → List (EntityEvent T) → List (EntityEvent T) → List (EntityEvent T)
put_each since [] = since
put_each since (event ∷ events) = put_each (without event.0 since ++ event ∷ []) events

-- one event more: one of all cells ends the others, and one of another entity ends that entity's
abbrev pub after : {T : Type 0} → Live T → EntityEvent T → Live T
after live event = record {
  default = live.default;
  global = if is_global event.0 then unwrap_or event.1 live.default else live.global;
  since = if is_global event.0 then [] else without event.0 live.since ++ event ∷ [];
}

abbrev pub after_all : {T : Type 0} → Live T → List (EntityEvent T) → Live T
after_all live [] = live
after_all live (event ∷ events) = after_all (after live event) events

-- what the map shows after an event, if there is one
abbrev pub after_if : {T : Type 0} → Live T → Option (EntityEvent T) → Live T
after_if live None = live
after_if live (Some event) = after live event

-- the events that still count: these alone give what the map shows
abbrev pub events_left : {T : Type 0} → Live T → List (EntityEvent T)
events_left live = write_of Global live.global ∷ live.since

-- the value of a cell
abbrev pub value_at : {T : Type 0} → Live T → Position → T
value_at live cell = setting (events_left live) live.default cell
