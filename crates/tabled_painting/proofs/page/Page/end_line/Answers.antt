-- The line that was painted, and the side after it.
use Rattle.std.proofs.Common.{◌+◌, min, ap, ◌∙◌}
use Rattle.tabled_painting.specs.Pages.{most}
use Rattle.tabled_painting.proofs.PainterLemmas.{begins_more, line_whole}
use Rattle.tabled_painting.proofs.page.Page.end_line.Goals as goal

pub returns : goal.returns
returns g c = record {
  whole = λ line start begun.
      line_whole g.O.Output.gains g.met.O.Output.gains_both _ start c.paint_right.new.self.painter c.end_last.new.self
      (begins_more g.O.Output.gains g.met.O.Output.gains_both line _ start c.args.self.now.painter c.paint_right.new.self.painter begun c.in_ok-paint_right.ensures.painted)
      c.in_ok-end_last.ensures.text c.in_ok-end_last.ensures.color c.end_last.ensures.same_colors c.end_last.ensures.same_begun;
  ended = c.in_ok-end_last.ensures.color;
  number = c.saturating_add-self.ensures ∙ ap (λ n. min (n + 1) most) c.paint_right.ensures.number;
  same = record { left = c.paint_right.ensures.same.left; right = c.paint_right.ensures.same.right; high = c.paint_right.ensures.same.high };
}
