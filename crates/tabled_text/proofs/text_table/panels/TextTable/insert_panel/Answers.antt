-- Rows that have cells take a panel.
use Rattle.std.proofs.Common.{◌≡◌, ◌⊎◌, ◌<◌, inl, inr, true, false, length, sym, ap, ◌∙◌, arith}
use Rattle.tabled_measure.specs.Sizes.{column_count}
use Rattle.tabled_text.proofs.PanelLemmas.{panel_in}
use Rattle.tabled_text.proofs.text_table.panels.TextTable.insert_panel.Goals.{else-rows-ne0-via-then-rows-ne0+else-cols-eq0, else-rows-ne0-via-else-rows-ne0}
use Rattle.tabled_text.proofs.text_table.panels.TextTable.insert_panel.Goals as goal

pub returns-in_err-insert_row-clause-unequal : goal.returns-in_err-insert_row-clause-unequal
returns-in_err-insert_row-clause-unequal c = λ out.
    let table = c.args.self.now.texts in
    let rows = ap (λ shape. shape.rows) c.shape-rows.ensures in
    let cols = ap (λ shape. shape.cols) c.shape-rows.ensures in
    let either : (length table ≡ 0) ⊎ (0 < column_count table) = elim c.else-rows-ne0.branch [
      | else-rows-ne0-via-then-rows-ne0+else-cols-eq0 w ↦ inr (omega (arith, cols, w.if-cols-eq0.false))
      | else-rows-ne0-via-else-rows-ne0 w ↦ inl (omega (arith, rows, w.if-rows-ne0.false))
    ] in
    absurd (let both : true ≡ false = sym (panel_in c.args.text.now table either) ∙ out in cc)
