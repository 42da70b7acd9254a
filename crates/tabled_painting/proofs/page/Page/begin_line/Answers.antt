-- The line feed, and the side after it; a side without room is nothing.
use Rattle.std.proofs.Common.{ap, sym, subst, ◌∙◌}
use Rattle.tabled_painting.specs.Pages.{BeginsLine}
use Rattle.tabled_painting.specs.Margin.{side_of, side_at}
use Rattle.tabled_painting.proofs.PainterLemmas.{begins_all, paints_none}
use Rattle.tabled_painting.proofs.MarginLemmas.{nothing_at}
use Rattle.tabled_painting.proofs.page.Page.begin_line.Goals as goal

pub returns-then-self-eq0-clause-begun : goal.returns-then-self-eq0-clause-begun
returns-then-self-eq0-clause-begun g c =
    let page = c.args.self.now in
    let gains = g.O.Output.gains in
    subst (λ line. BeginsLine gains line page.painter c.begin_line.new.self) (sym (ap (side_at (side_of page.left) page.high page.number) c.if-self-eq0.true ∙ nothing_at (side_of page.left) page.high page.number))
    (begins_all gains g.met.O.Output.gains_both _ page.painter c.begin_line.new.self _ c.requires.ended c.in_ok-begin_line.ensures.text c.in_ok-begin_line.ensures.begun c.begin_line.ensures.color c.begin_line.ensures.same_colors
    (paints_none gains g.met.O.Output.gains_none c.begin_line.new.self))
