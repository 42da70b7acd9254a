use Rattle.std.proofs.Common.{rules, tests, Bool, ◌&&◌, ap, ◌∙◌}
use Rattle.std.specs.List.{list_any}
use Rattle.std.proofs.lemmas.Iterator.Consumers.{YieldsList-from_rest}
use Rattle.std.proofs.lemmas.Iterator.Search.{any_from_yields_List}
use Rattle.tabled_layout.specs.Spans.{SpanEvent}
use Rattle.tabled_layout.specs.Covering.{within_columns, within_its_rows}
use Rattle.tabled_layout.proofs.SpanLemmas.{entries_are}
use Rattle.tabled_layout.proofs.spans.Spans.one_covers_with.Goals as goal

pub returns : goal.returns
returns c =
    let test : SpanEvent → Bool = λ span. within_columns span c.args.cell && within_its_rows c.args.rows.now span.0 c.args.cell in
    any_from_yields_List test _ _ _ c.any.ensures.ran (YieldsList-from_rest c.as_map.result.now.entries c.iter.ensures.rest) (λ x b q k. search (rules, tests))
    ∙ ap (list_any test) (entries_are c.as_map.result.now.entries c.args.self.now c.iter.ensures.ordered c.as_map.ensures)
