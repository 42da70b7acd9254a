-- The new texts have as many cells in each row, and are measured.
use Rattle.std.proofs.Common.{map, length, sym, ap, ◌∙◌}
use Rattle.tabled_width.specs.Texts.{texts}
use Rattle.tabled_measure.specs.Changed.{cells_changed}
use Rattle.tabled_measure.specs.Sizes.{column_widths, row_heights}
use Rattle.tabled_measure.proofs.ChangedLemmas.{counts_stay, same_unequal}
use Rattle.tabled_text.proofs.Even.{utf8_cells}
use Rattle.tabled_text.proofs.TableLemmas.{measured_by}
use Rattle.tabled_text.proofs.text_table.limits.TextTable.change_texts.Goals as goal

pub invariant_of-self : goal.invariant_of-self
invariant_of-self g c =
    let old = texts c.self.inside.cells.items in
    let change = g.C.Change.change c.args.change.now in
    let made = c.in_ok-cells.ensures ∙ ap (cells_changed change) (c.texts.ensures ∙ ap (λ table. table.texts) (sym c.self.view_is)) in
    let new = ap texts c.deref.ensures.value in
    measured_by (ap (λ cells. texts cells.items) c.replace.ensures.after) (same_unequal old _ (ap (map length) made ∙ counts_stay change old) c.self.invariant.0)
    (ap (λ sizes. sizes.widths.items) c.replace-2.ensures.after ∙ c.in_ok-sizes.ensures.widths ∙ ap column_widths new)
    (ap (λ sizes. sizes.heights.items) c.replace-2.ensures.after ∙ c.in_ok-sizes.ensures.heights ∙ ap row_heights new) (utf8_cells _)

pub returns-clause-texts : goal.returns-clause-texts
returns-clause-texts g c = ap (λ cells. texts cells.items) c.replace.ensures.after ∙ c.in_ok-cells.ensures ∙ ap (cells_changed (g.C.Change.change c.args.change.now)) c.texts.ensures
