-- One row more.
use Rattle.std.proofs.Common.{max, map, string_bytes, ap, sym, ◌∙◌}
use Rattle.tabled_measure.specs.Sizes.{cell, width_asked}
use Rattle.tabled_measure.proofs.Measuring.{greatest_more}
use Rattle.tabled_measure.proofs.measure.column_width.Goals as goal

pub loop-row-preserved : goal.loop-row-preserved
loop-row-preserved c =
    greatest_more (λ row. width_asked (cell (map string_bytes row.items) c.args.col)) c.args.rows.now c.loop-row.row-index c.loop-row.width _ c.row-item.result c.row-item.result c.loop-row.invariant c.loop-row-test.true (sym c.row-item.is)
    (c.max-width.ensures ∙ ap (max c.loop-row.width) (c.in_ok-found.ensures.width ∙ ap (λ items. width_asked (cell (map string_bytes items) c.args.col)) c.deref.ensures.value))
