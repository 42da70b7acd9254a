-- Neither column spans nor row spans have the cell.
use Rattle.std.proofs.Common.{unwrap_or, max, sym, ap, ◌∙◌}
use Rattle.std.proofs.lemmas.Bool.{or_parts}
use Rattle.tabled_layout.specs.Covering.{has_span}
use Rattle.tabled_layout.proofs.CoveringLemmas.{none_in_row}
use Rattle.tabled_painting.proofs.spans_of.SpansOfCellSpans.may_span.Goals as goal

pub returns : goal.returns
returns c none col within =
    let settings = c.args.self.now.cfg.now.settings in
    let parts = or_parts (has_span settings.column_spans c.args.row c.args.count) (has_span settings.row_spans c.args.row c.args.count) (sym c.has_span_in_row.ensures ∙ none) in (
      ap (λ found. max (unwrap_or found 1) 1) (none_in_row settings.column_spans c.args.row c.args.count parts.0 col within),
      ap (λ found. max (unwrap_or found 1) 1) (none_in_row settings.row_spans c.args.row c.args.count parts.1 col within),
    )
