-- A place that was noted is taken back.
use Rattle.std.proofs.Common.{◌≡◌, ℕ, true, false, cond, Option, Some, None, is_some, Result, Ok, Err, OnOk, OnErr, sym, ap, ◌∙◌}
use Rattle.std.specs.BTreeMap.{BTreeMap, get, Updates}
use Rattle.tabled_object.specs.declared.entity.Entity.{Entity}
use Rattle.tabled_settings.specs.Setting.{same_entity}
use Rattle.tabled_settings.specs.Slots.{entity_cmp}
use Rattle.tabled_settings.proofs.Entities.{found_entity}

-- what an entity has after it was given a place, or none
pub given_place : (old new : BTreeMap Entity ℕ) (entity : Entity) (given : Option ℕ) → Updates entity_cmp old new entity given → (which : Entity) → get entity_cmp new which ≡ cond (same_entity which entity) given (get entity_cmp old which)
given_place old new entity given updates which = updates.0 which ∙ ap (λ b. cond b given (get entity_cmp old which)) (found_entity entity which)

pub place_again : {U E : Type 0} (old new : BTreeMap Entity ℕ) (entity : Entity) (at : ℕ) (result : Result U E) → is_some (get entity_cmp old entity) ≡ true → OnOk result (Updates entity_cmp old new entity (Some at)) → OnErr result (get entity_cmp old entity ≡ None) → (which : Entity) → get entity_cmp new which ≡ cond (same_entity which entity) (Some at) (get entity_cmp old which)
place_again old new entity at (Ok x) has updates absent which = given_place old new entity (Some at) updates which
place_again old new entity at (Err e) has updates absent which = absurd (let no : false ≡ true = sym (ap is_some absent) ∙ has in cc)
