use Rattle.std.proofs.Common.{subst}
use Rattle.std.proofs.lemmas.Iterator.{YieldsList}
use Rattle.std.proofs.lemmas.Iterator.Consumers.{YieldsList-from_shown}
use Rattle.std.specs.Array.Iter.{array_into_iter_items, array_steps}
use Rattle.tabled_object.specs.declared.entity.Entity.{Entity}
use Rattle.tabled_object.proofs.object.entities.ArrayEntityObject.cells.Goals as goal

pub returns-clause-listed : goal.returns-clause-listed
returns-clause-listed g c = record {
  may_begin = tt;
  ends = tt;
  in_order = (subst (λ entities. YieldsList (array_steps {A = Entity} {n = g.row.N}) (λ entity. entity) c.into_iter.result entities) c.into_iter.ensures.into_iter_gives.0
      (YieldsList-from_shown (array_steps {A = Entity} {n = g.row.N}) (λ entity. entity) array_into_iter_items (λ s t h. h.0) (λ s x t h. h) c.into_iter.result)).runs;
}
