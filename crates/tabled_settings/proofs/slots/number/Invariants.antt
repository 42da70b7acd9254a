use Rattle.std.proofs.Common.{◌≡◌, take}
use Rattle.std.specs.BTreeMap.{get}
use Rattle.tabled_object.specs.declared.entity.Entity.{Entity}
use Rattle.tabled_settings.specs.Setting.{same_entity}
use Rattle.tabled_settings.specs.Slots.{place, entity_cmp}
use Rattle.tabled_settings.proofs.Numbering.{noted}
use Rattle.tabled_settings.proofs.slots.number.Given as goal

-- what was passed is noted, and else each entity has the place that it had
abbrev pub invariant-loop-at : goal.invariant-loop-at
invariant-loop-at g l = (entity : Entity) → get entity_cmp l.places entity ≡ noted (place (same_entity entity) (take l.at l.slots)) (get entity_cmp l.initial.places entity)
