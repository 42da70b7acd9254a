use Rattle.std.proofs.Common.{subst}
use Rattle.tabled_kept.specs.Table.{table}
use Rattle.tabled_layout.specs.Spans.{SpanMap, position_cmp}
use Rattle.tabled_layout.specs.Covering.{covered_by_column_span, covered_by_row_span, covered_by_both_spans}
use Rattle.tabled_correction.specs.Covered.{AreThose}
use Rattle.tabled_correction.proofs.covered.Covered.of.Goals as goal

pub returns-clause-in_rows : goal.returns-clause-in_rows
returns-clause-in_rows c = subst (λ (spans : SpanMap). AreThose c.in_ok-covered_in_rows.field-0.keys c.args.shape (covered_by_column_span spans)) c.get_column_spans-columns.ensures c.in_ok-covered_in_rows.ensures

pub returns-clause-in_columns : goal.returns-clause-in_columns
returns-clause-in_columns c = subst (λ (spans : SpanMap). AreThose c.in_ok-covered_in_columns.field-0.keys c.args.shape (covered_by_row_span spans)) c.get_row_spans-rows.ensures c.in_ok-covered_in_columns.ensures

pub returns-clause-by_both : goal.returns-clause-by_both
returns-clause-by_both c =
    subst (λ (spans : SpanMap). AreThose c.in_ok-covered_by_both.field-0.keys c.args.shape (covered_by_both_spans c.args.cfg.now.settings.column_spans spans)) c.get_row_spans-rows.ensures
    (subst (λ (spans : SpanMap). AreThose c.in_ok-covered_by_both.field-0.keys c.args.shape (covered_by_both_spans spans (table position_cmp c.get_row_spans-rows.result.now.entries))) c.get_column_spans-columns.ensures c.in_ok-covered_by_both.ensures)
