use Rattle.std.proofs.Common.{◌∙◌, sym}
use Rattle.tabled_object.specs.contracts.position.PositionOrd.TheImpl.Laws.{total-law}
use Rattle.tabled_kept.proofs.Tables.{no-entries, no-keys}
use Rattle.tabled_layout.proofs.SpanLemmas.{positions_apart, none_counted}
use Rattle.tabled_layout.proofs.spans.Spans.is_empty.Goals as goal

pub returns : goal.returns
returns c =
    none_counted c.args.self.now c.is_empty.result
    (λ yes. sym c.self.view_is ∙ no-entries total-law positions_apart c.self.inside.spans.entries (c.is_empty.ensures.0 yes))
    (λ none. c.is_empty.ensures.1 (no-keys total-law positions_apart c.self.inside.spans.entries (c.self.view_is ∙ none)))
