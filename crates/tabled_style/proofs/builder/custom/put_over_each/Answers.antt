use Rattle.std.proofs.Common.{arith}
use Rattle.tabled_style.proofs.InPlace.{each-more}
use Rattle.tabled_style.proofs.builder.custom.put_over_each.Goals as goal

pub loop-line-preserved : goal.loop-line-preserved
loop-line-preserved g c =
    rw c.put_over.ensures (each-more (g.Line.CustomLine.over c.args.put) c.args.lines.now _ _ _ (omega arith) c.loop-line.invariant)
