-- What is kept at the position.
use Rattle.std.proofs.Common.{max, unwrap_or, sym, ap, ◌∙◌}
use Rattle.tabled_object.specs.contracts.position.PositionOrd.TheImpl.Laws.{total-law}
use Rattle.tabled_kept.proofs.Tables.{get-table}
use Rattle.tabled_layout.proofs.SpanLemmas.{positions_apart}
use Rattle.tabled_painting.proofs.spans_of.span_at.Goals as goal

pub returns-clause-value : goal.returns-clause-value
returns-clause-value c =
    c.max.ensures
    ∙ ap (λ count. max count 1) c.unwrap_or-count.ensures
    ∙ ap (λ count. max (unwrap_or count 1) 1) (c.copied.ensures ∙ c.get.ensures.value ∙ sym (get-table total-law positions_apart c.args.spans.now.entries c.args.position))
