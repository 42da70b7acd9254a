-- A text after its color.
use Rattle.std.proofs.Common.{refl}
use Rattle.tabled_painting.proofs.PainterLemmas.{paints_begun, some_bytes}
use Rattle.tabled_painting.proofs.painter.Painter.push_str.Goals as goal

pub returns : goal.returns
returns g c =
    paints_begun g.O.Output.gains g.met.O.Output.gains_both _ _ c.args.self.now c.begin.new.self _ (some_bytes _ _ c.if-is_empty.false c.is_empty.ensures)
    c.in_ok-begin.ensures.text c.in_ok-begin.ensures.color c.begin.ensures.same_colors c.begin.ensures.same_begun c.in_ok-push_str.ensures refl refl refl
