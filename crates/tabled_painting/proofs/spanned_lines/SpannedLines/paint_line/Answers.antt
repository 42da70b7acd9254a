-- A line over which nothing reaches is painted as one without spans; another piece by piece, if it is drawn.
use Rattle.std.proofs.Common.{if◌then◌else◌, [], ◌∷◌, refl, sym, subst, ◌∙◌, arith}
use Rattle.tabled_painting.specs.Pages.{PaintsLines}
use Rattle.tabled_painting.specs.RoomLines.{columns_of, rows_of}
use Rattle.tabled_painting.specs.Viewed.{viewed}
use Rattle.tabled_painting.proofs.AloneLemmas.{all_begin}
use Rattle.tabled_painting.proofs.PageLemmas.{line_painted, line_drawn}
use Rattle.tabled_painting.proofs.SpannedLemmas.{across_own}
use Rattle.tabled_painting.proofs.spanned_lines.SpannedLines.paint_line.Goals as goal

pub returns-then-all_begin_in-clause-painted : goal.returns-then-all_begin_in-clause-painted
returns-then-all_begin_in-clause-painted g c = λ cells opened.
    let lines = c.args.self.now.lines.now in
    let view = viewed lines.frame in
    subst (λ line. PaintsLines g.O.Output.gains (if view.horizontal c.args.row then line ∷ [] else []) c.args.page.now c.paint_line.new.page)
    (across_own view (columns_of lines) (rows_of lines) cells c.args.row lines.frame.has_places (omega (arith, c.requires.row))
    (all_begin lines c.args.self.now.firsts.now c.args.self.now.sides.now c.args.row c.args.hosts.now c.requires.keeps c.requires.are c.requires.row (c.all_begin_in.ensures.all c.if-all_begin_in.true)))
    c.in_ok-paint_line.ensures

pub returns-clause-painted : goal.returns-clause-painted
returns-clause-painted g c = λ cells opened.
    let lines = c.args.self.now.lines.now in
    line_drawn g.O.Output.gains ((viewed lines.frame).horizontal c.args.row) _ _ _ (sym c.draws.ensures ∙ c.if-not-draws.false)
    (line_painted g.O.Output.gains g.met.O.Output.gains_both c.args.page.now c.begin_line.new.self _ c.end_line.new.self _ c.in_ok-begin_line.ensures.begun c.begin_line.ensures.number c.begin_line.ensures.same
    (c.in_ok-paint_across.ensures.painted cells opened) refl (record { left = refl; right = refl; high = refl }) c.in_ok-end_line.ensures)
