-- The cells inside span.
use Rattle.std.proofs.Common.{◌∙◌, ap, filter, flat_map}
use Rattle.tabled_object.specs.Entities.{cells_of, is_inside}
use Rattle.tabled_grid.proofs.Seen.{on_ok}
use Rattle.tabled_changes.proofs.ColoredLemmas.{Changes_lent}
use Rattle.tabled_correction.specs.Span.{cell_spanned, span_events}
use Rattle.tabled_correction.proofs.SpanEvents.{none_in_spans}
use Rattle.tabled_correction.proofs.span.SpanCellOptionColoredConfig.change.Goals as goal

pub returns-clause-ok : goal.returns-clause-ok
unfolding span_events
returns-clause-ok g c =
    let reach = c.args.self.now in
    let entity = c.args.entity in
    on_ok c.set_all.result (λ changes. Changes_lent _ _ c.args.cfg.now _ _ c.config_mut-config.ensures.value
    (ap (flat_map (cell_spanned reach)) (c.deref.ensures.value ∙ c.in_ok-cells.ensures)
    ∙ (λ i. flat_map (cell_spanned reach) (filter (is_inside (c.count_rows.ensures i) (c.count_columns.ensures i)) (cells_of entity (c.count_rows.ensures i) (c.count_columns.ensures i)))))
    (none_in_spans reach (g.R.ExactRecords.row_count c.args.records.now) (g.R.Records.column_count c.args.records.now) entity) changes)
    c.set_all.ensures.ok
