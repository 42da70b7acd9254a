-- The new texts have as many cells in each row.
use Rattle.std.proofs.Common.{length, map, ap, ◌∙◌}
use Rattle.tabled_cells.specs.TextsBy.{texts_by}
use Rattle.tabled_measure.specs.Changed.{cells_changed}
use Rattle.tabled_measure.proofs.ChangedLemmas.{counts_stay, same_unequal}
use Rattle.tabled_text.proofs.table.Table.changed.Goals as goal

pub of_equal_rows-requires : goal.of_equal_rows-requires
of_equal_rows-requires g c =
    let old = texts_by g.T.AsStr.text c.self.inside.cells.items in
    let change = g.C.Change.change c.args.change.now in
    let made = c.in_ok-changed.ensures ∙ ap (λ cells. cells_changed change (texts_by g.T.AsStr.text cells)) c.deref-2.ensures.value in
    same_unequal old _ (ap (map length) made ∙ counts_stay change old) c.self.invariant.0
