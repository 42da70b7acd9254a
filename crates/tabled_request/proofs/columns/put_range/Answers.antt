-- One column more.
use Rattle.std.proofs.Common.{◌∙◌, arith}
use Rattle.tabled_request.proofs.KeptColumns.{one_more_from}
use Rattle.tabled_request.proofs.columns.put_range.Goals as goal

pub loop-col-preserved : goal.loop-col-preserved
loop-col-preserved c = record {
  items = c.in_ok-push.ensures.items ∙ one_more_from c.args.columns.now.items c.loop-col.columns.items c.reach-from.result.0 c.loop-col.col c.loop-col.auto.col c.loop-col.invariant.items;
  within = omega arith;
}
