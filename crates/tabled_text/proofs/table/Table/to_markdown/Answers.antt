-- The rows that are read back are those of the table, since each has as many cells as it has columns.
use Rattle.std.proofs.Common.{◌≡◌, map, sym, ap, ◌∙◌}
use Rattle.tabled_cells.specs.TextsBy.{texts_by}
use Rattle.tabled_markdown.specs.Table.{fitted}
use Rattle.tabled_measure.specs.Sizes.{column_count, unequal_row}
use Rattle.tabled_text.specs.TextTable.{Drawing}
use Rattle.tabled_text.proofs.MarkdownLemmas.{whole_table}
use Rattle.tabled_text.proofs.table.Table.to_markdown.Goals as goal

pub returns-clause-cells_read : goal.returns-clause-cells_read
returns-clause-cells_read g c =
    let table = c.args.self.now.texts in
    let texts : texts_by g.T.AsStr.text c.self.inside.cells.items ≡ table = ap (λ (drawing : Drawing). drawing.texts) c.self.view_is in
    c.in_ok-text.ensures.rows_read
    ∙ (λ i. map (fitted (c.shape.ensures i).cols) (texts_by g.T.AsStr.text (c.deref.ensures.value i)))
    ∙ ap (map (fitted (column_count table))) texts
    ∙ whole_table table (sym (ap unequal_row texts) ∙ c.self.invariant.0)
