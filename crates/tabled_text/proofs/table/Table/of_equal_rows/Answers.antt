-- The sizes are those of the texts.
use Rattle.std.proofs.Common.{ap, subst, ◌∙◌}
use Rattle.tabled_cells.specs.TextsBy.{texts_by}
use Rattle.tabled_measure.specs.Cells.{AreUtf8}
use Rattle.tabled_measure.specs.Sizes.{column_widths, row_heights, unequal_row}
use Rattle.tabled_text.proofs.table.Table.of_equal_rows.Goals as goal

pub invariant_of-result : goal.invariant_of-result
invariant_of-result g c =
    let kept = ap (texts_by g.T.AsStr.text) c.deref.ensures.value in (
      c.requires,
      c.in_ok-sizes.ensures.widths ∙ ap column_widths kept,
      c.in_ok-sizes.ensures.heights ∙ ap row_heights kept,
      subst AreUtf8 kept (c.in_ok-sizes.ensures.utf8 (ap unequal_row kept ∙ c.requires)),
    )
