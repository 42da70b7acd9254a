use Rattle.std.proofs.Common.{◌∙◌, ◌==◌, sym}
use Rattle.tabled_object.specs.contracts.position.PositionOrd.TheImpl.Laws.{total-law}
use Rattle.tabled_object.specs.contracts.position.PositionPartialEq.TheImpl.{eq-value as same}
use Rattle.tabled_kept.proofs.Ascending.{same-table}
use Rattle.tabled_layout.specs.Same.{same_spans}
use Rattle.tabled_layout.proofs.SpanLemmas.{is_same_position}
use Rattle.tabled_layout.proofs.spans.SpansPartialEq.eq.Goals as goal

pub returns : goal.returns
returns c =
    c.eq.ensures ∙ same-table total-law same.it ◌==◌ (λ a b. sym (is_same_position a b)) c.self.inside.spans.entries c.other.inside.spans.entries c.len.ensures.ordered c.len-2.ensures.ordered
    ∙ (λ i. same_spans (c.self.view_is i) (c.other.view_is i))
