-- One row more has its cells.
use Rattle.std.proofs.Common.{map, ap, ◌∙◌}
use Rattle.std.proofs.lemmas.List.{map-append}
use Rattle.tabled_input.specs.Lines.{cells_of}
use Rattle.tabled_input.specs.Selection.{selected_row}
use Rattle.tabled_input.proofs.Growing.{one_more}
use Rattle.tabled_input.proofs.selection.columns_of.Goals as goal

pub loop-row-preserved : goal.loop-row-preserved
loop-row-preserved c =
    one_more (λ row. map (λ cell. cell.now) row.items) (selected_row c.args.columns.now) c.args.rows.now c.loop-row.row-index c.row-item.result _ _ _ c.loop-row-test.true c.row-item.is c.loop-row.invariant
    (c.in_ok-selected_row.ensures ∙ ap (λ cells. selected_row c.args.columns.now (map (λ cell. cell.now) cells)) c.deref.ensures.value)
    (ap cells_of c.in_ok-push.ensures.items ∙ map-append _ c.loop-row.shown.items _)
