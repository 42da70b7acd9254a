use Rattle.std.proofs.Common.{ap, length, ◌∙◌}
use Rattle.std.proofs.lemmas.Iterator.Adapters.{YieldsList-from_vec}
use Rattle.tabled_object.proofs.object.entities.VecEntityObject.cells.Goals as goal

pub returns-clause-listed : goal.returns-clause-listed
returns-clause-listed g c = record {
  may_begin = tt;
  ends = tt;
  in_order = (YieldsList-from_vec c.args.self.now.items (c.into_iter.ensures.rest ∙ c.in_ok-entities.ensures.items ∙ c.deref.ensures.value) (c.into_iter.ensures.len ∙ c.in_ok-entities.ensures.len ∙ ap length c.deref.ensures.value)).runs;
}
