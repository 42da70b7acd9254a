-- One more character.
use Rattle.tabled_painting.specs.Margin.{side_of, side_at}
use Rattle.tabled_painting.proofs.PainterLemmas.{parts_more}
use Rattle.tabled_painting.proofs.margin_side.MarginSide.paint_strip.Goals as goal

pub loop-n-preserved : goal.loop-n-preserved
loop-n-preserved g c = parts_more g.O.Output.gains g.met.O.Output.gains_both (λ n. side_at (side_of c.args.self.now) c.args.long n 1) c.loop-n.n _ _ _ c.loop-n.invariant c.in_ok-paint_at.ensures
