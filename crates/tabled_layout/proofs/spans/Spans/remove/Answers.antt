use Rattle.std.proofs.Common.{ap, sym, subst, ◌∙◌}
use Rattle.std.specs.FinMap as map
use Rattle.tabled_object.specs.contracts.position.PositionOrd.TheImpl.Laws.{total-law}
use Rattle.tabled_kept.proofs.Tables.{table-take}
use Rattle.tabled_kept.specs.Table.{table}
use Rattle.tabled_layout.specs.Spans.{position_cmp, NoLonger}
use Rattle.tabled_layout.proofs.CoveringLemmas.{no_longer_without}
use Rattle.tabled_layout.proofs.SpanLemmas.{positions_apart}
use Rattle.tabled_layout.proofs.spans.Spans.remove.Goals as goal

pub returns : goal.returns
returns c =
    table-take total-law positions_apart c.self.inside.spans.entries c.remove.new.self.entries c.args.position c.remove.ensures.updates.0
    ∙ ap (λ m. map.remove m c.args.position) c.self.view_is

pub invariant_of-self : goal.invariant_of-self
invariant_of-self c =
    subst (NoLonger c.self.inside.longest) (sym (table-take total-law positions_apart c.self.inside.spans.entries c.remove.new.self.entries c.args.position c.remove.ensures.updates.0))
    (no_longer_without c.self.inside.longest (table position_cmp c.self.inside.spans.entries) c.args.position c.self.invariant)
