use Rattle.std.proofs.lemmas.Iterator.{YieldsList-from_slice}
use Rattle.std.proofs.lemmas.Iterator.Consumers.{YieldsList-from_copied, YieldsList-at}
use Rattle.tabled_object.proofs.object.entities.RefSliceEntityObject.cells.Goals as goal

pub returns-clause-listed : goal.returns-clause-listed
returns-clause-listed g c = record {
  may_begin = tt;
  ends = tt;
  in_order = (YieldsList-from_copied (YieldsList-at c.copied.ensures.source (YieldsList-from_slice c.args.self.now.now cc))).runs;
}
