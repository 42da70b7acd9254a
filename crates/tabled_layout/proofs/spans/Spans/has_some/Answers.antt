use Rattle.std.proofs.Common.{rules, tests, Bool, true, ◌∙◌}
use Rattle.std.proofs.lemmas.Iterator.Consumers.{YieldsList-from_rest}
use Rattle.std.proofs.lemmas.Iterator.Search.{any_from_yields_List}
use Rattle.tabled_layout.specs.Spans.{SpanEvent, spans_in_row}
use Rattle.tabled_layout.proofs.CoveringLemmas.{some_in_row}
use Rattle.tabled_layout.proofs.spans.Spans.has_some.Goals as goal

pub returns : goal.returns
returns c =
    let each : SpanEvent → Bool = λ span. true in
    any_from_yields_List each _ _ _ c.any.ensures.ran (YieldsList-from_rest (spans_in_row c.args.self.now c.args.row 0 c.args.count) c.in_row.ensures) (λ x b q k. search (rules, tests))
    ∙ some_in_row c.args.self.now c.args.row c.args.count
