-- Settings by entity: what a list of writes and removals leaves for a cell.
use Rattle.std.specs.Prelude.{Bool, true, false, ◌==◌, ◌&&◌, Option, Some, None, is_some, List, filter, unwrap_or, option_and_then}
use Rattle.std.specs.List.{last_or}
use Rattle.tabled_object.specs.declared.entity.Entity.{Entity}
use Rattle.tabled_object.specs.declared.entity.Entity.TheVariants.{Global, Column, Row, Cell}
use Rattle.tabled_object.specs.declared.position.Position.{Position}
use Rattle.tabled_object.specs.Entities.{covers}

-- a value is written for an entity, or what the entity has is removed
abbrev pub EntityEvent : Type 0 → Type 0
EntityEvent T = Entity × Option T

abbrev pub write_of : {T : Type 0} → Entity → T → EntityEvent T
write_of entity value = (entity, Some value)

abbrev pub removal_of : {T : Type 0} → Entity → EntityEvent T
removal_of entity = (entity, None)

-- whether it is a write
abbrev pub is_write : {T : Type 0} → EntityEvent T → Bool
is_write event = is_some event.1

-- of these events those that cover the cell, in their order
abbrev pub covering : {T : Type 0} → List (EntityEvent T) → Position → List (EntityEvent T)
covering events cell = filter (λ event. covers event.0 cell) events

-- of the events that cover the cell the last one counts: a write gives its value, a removal the default, as no event does
abbrev pub setting : {T : Type 0} → List (EntityEvent T) → T → Position → T
setting events default cell = unwrap_or (option_and_then (λ event. event.1) (last_or None (covering events cell))) default

-- whether two entities are one
abbrev pub same_entity : Entity → Entity → Bool
same_entity Global Global = true
same_entity (Column col) (Column other) = col == other
same_entity (Row row) (Row other) = row == other
same_entity (Cell row col) (Cell other another) = (row == other) && (col == another)
same_entity _ _ = false

abbrev pub is_global : Entity → Bool
is_global entity = same_entity entity Global
