-- The line is drawn where the frame says so.
use Rattle.std.proofs.Common.{refl, sym, ◌∙◌}
use Rattle.tabled_painting.specs.Viewed.{viewed}
use Rattle.tabled_painting.proofs.PageLemmas.{line_painted, line_drawn}
use Rattle.tabled_painting.proofs.table_lines.TableLines.paint_line.Goals as goal

pub returns-2 : goal.returns-2
returns-2 g c =
    line_drawn g.O.Output.gains ((viewed c.args.self.now.frame).horizontal c.args.row) _ _ _ (sym c.draws.ensures ∙ c.if-not-draws.false)
    (line_painted g.O.Output.gains g.met.O.Output.gains_both c.args.page.now c.begin_line.new.self _ c.end_line.new.self _ c.in_ok-begin_line.ensures.begun c.begin_line.ensures.number c.begin_line.ensures.same
    c.in_ok-put_line.ensures.put refl (record { left = refl; right = refl; high = refl }) c.in_ok-end_line.ensures)
