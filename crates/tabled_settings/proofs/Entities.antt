-- Entities as keys: what is equal and what compares alike.
use Rattle.std.proofs.Common.{◌≡◌, ◌==◌, true, refl, ap, ◌∙◌}
use Rattle.std.specs.BTreeMap.{is_at}
use Rattle.std.proofs.lemmas.Bool.{eqb-true, and_parts}
use Rattle.tabled_object.specs.declared.entity.Entity.{Entity}
use Rattle.tabled_object.specs.declared.entity.Entity.TheVariants.{Global, Column, Row, Cell}
use Rattle.tabled_settings.specs.Setting.{same_entity}
use Rattle.tabled_settings.specs.Slots.{entity_cmp}
use Rattle.tabled_settings.specs.SameLaws.{is_same_entity, entity_equiv}

-- the same entity is equal
pub equal_entities : (a b : Entity) → same_entity a b ≡ true → a ≡ b
equal_entities Global Global h = refl
equal_entities (Column a) (Column b) h = ap Column (eqb-true a b h)
equal_entities (Row a) (Row b) h = ap Row (eqb-true a b h)
equal_entities (Cell a b) (Cell c d) h = let parts = and_parts (a == c) (b == d) h in λ i. Cell (eqb-true a c parts.0 i) (eqb-true b d parts.1 i)
equal_entities a b h = absurd cc

pub entity_itself : (a : Entity) → same_entity a a ≡ true
entity_itself a = entity_equiv.refl a

-- a look-up finds the same entity
pub found_entity : (key entity : Entity) → is_at (entity_cmp key) entity ≡ same_entity entity key
found_entity key entity = is_same_entity key entity ∙ entity_equiv.symm key entity
