-- The column is there.
use Rattle.std.proofs.Common.{Some, ap, ◌∙◌, arith}
use Rattle.tabled_measure.specs.Sizes.{column_count}
use Rattle.tabled_measure.proofs.ColumnLemmas.{column_there}
use Rattle.tabled_text.proofs.text_table.edited_columns.TextTable.remove_column.Goals as goal

pub returns-clause-column : goal.returns-clause-column
returns-clause-column c =
    let is = c.view-cols.ensures in
    let cols = ap (λ shape. shape.1) is.table.shape ∙ ap column_count is.texts in
    ap Some c.in_ok-column.ensures.column ∙ column_there c.args.index c.args.self.now.texts (omega (arith, cols, c.if-index-cols.false))
