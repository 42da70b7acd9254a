-- One line more.
use Rattle.tabled_painting.proofs.PainterLemmas.{begins_all, line_whole}
use Rattle.tabled_painting.proofs.PageLemmas.{strip_more}
use Rattle.tabled_painting.proofs.margin_side.MarginSide.paint_strips.Goals as goal

pub loop-preserved : goal.loop-preserved
loop-preserved g c =
    let gains = g.O.Output.gains in
    let both = g.met.O.Output.gains_both in
    strip_more gains both _ c.loop.counter _ _ _ c.loop.invariant
    (line_whole gains both _ c.loop.painter c.paint_strip.new.painter c.end_last.new.self
    (begins_all gains both _ c.loop.painter c.begin_line.new.self c.paint_strip.new.painter c.loop.invariant.ended c.in_ok-begin_line.ensures.text c.in_ok-begin_line.ensures.begun c.begin_line.ensures.color c.begin_line.ensures.same_colors c.in_ok-paint_strip.ensures)
    c.in_ok-end_last.ensures.text c.in_ok-end_last.ensures.color c.end_last.ensures.same_colors c.end_last.ensures.same_begun)
