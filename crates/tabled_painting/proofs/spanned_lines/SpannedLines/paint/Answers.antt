-- The rows, and the last line.
use Rattle.std.proofs.Common.{subst}
use Rattle.tabled_painting.specs.Pages.{PaintsLines}
use Rattle.tabled_painting.specs.PaintedTable.{painted_if_drawn}
use Rattle.tabled_painting.specs.PaintedSpans.{spanned_lines}
use Rattle.tabled_painting.specs.Viewed.{viewed}
use Rattle.tabled_painting.proofs.PageLemmas.{lines_both}
use Rattle.tabled_painting.proofs.spanned_lines.SpannedLines.paint.Goals as goal

pub returns : goal.returns
unfolding spanned_lines
returns g c =
    let view = viewed c.args.self.now.lines.now.frame in
    lines_both g.O.Output.gains g.met.O.Output.gains_both _ (painted_if_drawn view view.shape.0) c.args.page.now c.paint_rows.new.page c.paint_line.new.page c.in_ok-paint_rows.ensures.painted
    (subst (λ n. PaintsLines g.O.Output.gains (painted_if_drawn view n) c.paint_rows.new.page c.paint_line.new.page) c.requires.rows c.in_ok-paint_line.ensures)
