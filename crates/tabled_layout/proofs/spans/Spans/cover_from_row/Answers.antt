use Rattle.std.proofs.Common.{rules, tests, Bool, ◌&&◌, ◌∙◌}
use Rattle.std.proofs.lemmas.Bool.{and_parts}
use Rattle.std.proofs.lemmas.Iterator.Consumers.{YieldsList-from_rest}
use Rattle.std.proofs.lemmas.Iterator.Search.{any_from_yields_List}
use Rattle.tabled_layout.specs.Spans.{SpanEvent, spans_in_row}
use Rattle.tabled_layout.specs.Covering.{within_columns, within_its_rows}
use Rattle.tabled_layout.proofs.CoveringLemmas.{any_in_row}
use Rattle.tabled_layout.proofs.spans.Spans.cover_from_row.Goals as goal

pub returns : goal.returns
returns c =
    let found : SpanEvent → Bool = λ span. within_columns span c.args.cell && within_its_rows c.args.rows.now span.0 c.args.cell in
    any_from_yields_List found _ _ _ c.any.ensures.ran (YieldsList-from_rest (spans_in_row c.args.self.now c.args.row c.first_reaching-first.result c.args.cell.col) c.in_row.ensures) (λ x b q k. search (rules, tests))
    ∙ any_in_row c.args.self.now c.args.row c.first_reaching-first.result c.args.cell found c.first_reaching-first.ensures.reached (λ span h. (and_parts (within_columns span c.args.cell) (within_its_rows c.args.rows.now span.0 c.args.cell) h).0)
