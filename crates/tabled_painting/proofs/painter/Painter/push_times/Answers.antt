-- Characters after their color.
use Rattle.std.proofs.Common.{refl}
use Rattle.tabled_painting.proofs.PainterLemmas.{paints_begun, some_times}
use Rattle.tabled_painting.proofs.painter.Painter.push_times.Goals as goal

pub returns : goal.returns
returns g c =
    paints_begun g.O.Output.gains g.met.O.Output.gains_both _ _ c.args.self.now c.begin.new.self _ (some_times c.args.count c.args.character c.if-count-eq0.false)
    c.in_ok-begin.ensures.text c.in_ok-begin.ensures.color c.begin.ensures.same_colors c.begin.ensures.same_begun c.in_ok-push_times.ensures refl refl refl
