-- A side without room is nothing.
use Rattle.std.proofs.Common.{ap, sym, subst, ◌∙◌}
use Rattle.tabled_painting.specs.InColor.{Paints}
use Rattle.tabled_painting.specs.Margin.{side_of, side_at}
use Rattle.tabled_painting.proofs.PainterLemmas.{paints_none}
use Rattle.tabled_painting.proofs.MarginLemmas.{nothing_at}
use Rattle.tabled_painting.proofs.page.Page.paint_right.Goals as goal

pub returns-then-self-eq0-clause-painted : goal.returns-then-self-eq0-clause-painted
returns-then-self-eq0-clause-painted g c =
    let page = c.args.self.now in
    subst (λ line. Paints g.O.Output.gains line page.painter page.painter) (sym (ap (side_at (side_of page.right) page.high page.number) c.if-self-eq0.true ∙ nothing_at (side_of page.right) page.high page.number))
    (paints_none g.O.Output.gains g.met.O.Output.gains_none page.painter)
