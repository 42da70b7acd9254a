-- What is lent is the table.
use Rattle.std.proofs.Common.{length, map, sym, ap, subst, ◌∙◌}
use Rattle.std.proofs.lemmas.List.{length-map}
use Rattle.std.proofs.lemmas.List.Elements.{All-same}
use Rattle.tabled_cells.specs.TextsBy.{texts_by}
use Rattle.tabled_measure.specs.Cells.{AreUtf8}
use Rattle.tabled_measure.specs.Sizes.{column_count, column_widths, row_heights, unequal_row}
use Rattle.tabled_measure.proofs.EqualRows.{HasCells, HaveCells, have-cells}
use Rattle.tabled_text.proofs.table.Table.view.Goals as goal

pub returns-clause-equal : goal.returns-clause-equal
returns-clause-equal g c = ap (λ drawing. unequal_row drawing.texts) (sym c.self.view_is) ∙ c.self.invariant.0

pub returns-clause-table : goal.returns-clause-table
returns-clause-table g c =
    let table = c.args.self.now.texts in
    let shape = c.shape-rows.ensures in
    let lent = texts_by g.T.AsStr.text c.texts.result.now in
    let kept = ap (λ drawing. drawing.texts) c.self.view_is ∙ sym c.texts.ensures in
    record {
      rows = sym (length-map c.texts.result.now (λ row. map g.T.AsStr.text row.items)) ∙ ap length c.texts.ensures ∙ ap (λ s. s.rows) (sym shape);
      cols = subst (λ columns. HaveCells columns lent) (ap (λ s. s.cols) (sym shape)) (All-same (HasCells (column_count table)) lent table c.texts.ensures (have-cells table (returns-clause-equal g c)));
      shape = ap (λ s. (s.rows, s.cols)) shape ∙ ap (λ texts. (length texts, column_count texts)) (sym c.texts.ensures);
      sized = record { widths = c.self.invariant.1 ∙ ap column_widths kept; heights = c.self.invariant.2 ∙ ap row_heights kept };
    }

pub returns-clause-utf8 : goal.returns-clause-utf8
returns-clause-utf8 g c = subst (λ drawing. AreUtf8 drawing.texts) c.self.view_is c.self.invariant.3
