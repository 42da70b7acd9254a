use Rattle.std.proofs.Common.{arith, ap, sym, subst, ◌∙◌}
use Rattle.std.specs.FinMap as map
use Rattle.tabled_object.specs.contracts.position.PositionOrd.TheImpl.Laws.{total-law}
use Rattle.tabled_kept.proofs.Tables.{get-table, table-put}
use Rattle.tabled_kept.specs.Table.{table}
use Rattle.tabled_layout.specs.Spans.{position_cmp, NoLonger}
use Rattle.tabled_layout.proofs.CoveringLemmas.{longer_by_one}
use Rattle.tabled_layout.proofs.SpanLemmas.{positions_apart}
use Rattle.tabled_layout.proofs.TakenBackLemmas.{where_refused}
use Rattle.tabled_layout.proofs.spans.Spans.insert.Goals as goal

pub returns-clause-ok : goal.returns-clause-ok
returns-clause-ok c =
    table-put total-law positions_apart c.self.inside.spans.entries c.insert.new.self.entries c.args.position c.args.count c.in_ok-insert.ensures.updates.0
    ∙ ap (λ m. map.insert m c.args.position c.args.count) c.self.view_is

pub invariant_of-self-2 : goal.invariant_of-self-2
invariant_of-self-2 c =
    let greatest = c.max-self-inside.ensures in
    subst (NoLonger c.max-self-inside.result) (sym (table-put total-law positions_apart c.self.inside.spans.entries c.insert.new.self.entries c.args.position c.args.count c.in_ok-insert.ensures.updates.0))
    (longer_by_one c.self.inside.longest c.max-self-inside.result (table position_cmp c.self.inside.spans.entries) c.args.position c.args.count (omega (arith, greatest)) (omega (arith, greatest)) c.self.invariant)

pub returns-in_err-insert-clause-absent : goal.returns-in_err-insert-clause-absent
returns-in_err-insert-clause-absent c =
    where_refused c.from_residual.result
    (ap (λ m. map.get m c.args.position) (sym c.self.view_is) ∙ get-table total-law positions_apart c.self.inside.spans.entries c.args.position ∙ c.in_err-insert.ensures.absent)
