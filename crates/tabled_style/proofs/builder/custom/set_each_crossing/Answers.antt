use Rattle.std.proofs.Common.{arith}
use Rattle.tabled_style.proofs.InPlace.{each-more}
use Rattle.tabled_style.proofs.builder.custom.set_each_crossing.Goals as goal

pub loop-line-preserved : goal.loop-line-preserved
loop-line-preserved g c =
    rw c.meeting.ensures (each-more (g.Line.CustomLine.met c.args.rank c.args.c) c.args.lines.now _ _ _ (omega arith) c.loop-line.invariant)
