use Rattle.std.proofs.Common.{sym, ap, ◌∙◌}
use Rattle.std.specs.FinMap as map
use Rattle.tabled_object.specs.contracts.position.PositionOrd.TheImpl.Laws.{total-law}
use Rattle.tabled_kept.proofs.Tables.{get-table}
use Rattle.tabled_layout.proofs.SpanLemmas.{positions_apart}
use Rattle.tabled_layout.proofs.spans.Spans.get.Goals as goal

pub returns : goal.returns
returns c =
    c.copied.ensures ∙ c.get.ensures.value ∙ sym (get-table total-law positions_apart c.self.inside.spans.entries c.args.position)
    ∙ ap (λ m. map.get m c.args.position) c.self.view_is
