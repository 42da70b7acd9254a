-- One row more; at the end all rows have widened the columns.
use Rattle.std.proofs.Common.{ℕ, ◌<◌, max, subst, length, drop, get_or, map, ap, sym, ◌∙◌, arith}
use Rattle.std.proofs.lemmas.Grind.{common_steps}
use Rattle.std.proofs.lemmas.List.{length-map, take_at}
use Rattle.std.specs.Str.{IsUtf8}
use Rattle.tabled_measure.specs.Sizes.{cell, column_count, width_asked}
use Rattle.tabled_cells.specs.TextsBy.{texts_by}
use Rattle.tabled_measure.proofs.Measuring.{greatest_more, widened_all, row_at, rows_more, utf8_table}
use Rattle.tabled_measure.proofs.measure.sizes_of.Goals as goal

pub loop-row-preserved : goal.loop-row-preserved
loop-row-preserved g c =
    let table = texts_by g.T.AsStr.text c.args.rows.now in
    let kept = take_at c.widen.new.widths (drop (length c.widen.new.widths) c.loop-row.widths.items) c.loop-row.widths.len (c.widen.auto.widths ∙ c.deref_mut.ensures.len) in
    let here = row_at g.T.AsStr.text c.args.rows.now c.loop-row.row-index c.row-item.result c.loop-row-test.true c.row-item.is in
    record {
      count = ap length kept ∙ c.widen.auto.widths ∙ ap length c.deref_mut.ensures.value ∙ c.loop-row.invariant.count;
      widths = λ col inside.
          let within = let h = inside in subst (λ items. col < length items) kept h in
          ap (λ items. get_or items col 0) kept
          ∙ greatest_more (λ row. width_asked (cell (map g.T.AsStr.text row.items) col)) c.args.rows.now c.loop-row.row-index _ _ c.row-item.result c.row-item.result
          (ap (λ items. get_or items col 0) c.deref_mut.ensures.value ∙ c.loop-row.invariant.widths col (omega (arith, c.widen.auto.widths, ap length c.deref_mut.ensures.value, within)))
          c.loop-row-test.true (sym c.row-item.is)
          (c.in_ok-is_printable.ensures.widths col within ∙ ap (λ items. max (get_or c.deref_mut.result.now col 0) (width_asked (cell (map g.T.AsStr.text items) col))) c.deref.ensures.value);
      heights = grind (arith, common_steps);
      utf8 =
          rows_more (λ cells. (k : ℕ) → k < column_count table → IsUtf8 (cell cells k)) table c.loop-row.row-index (map g.T.AsStr.text c.deref.result.now)
          (here ∙ ap (λ items. map g.T.AsStr.text items) (sym c.deref.ensures.value)) c.loop-row.invariant.utf8
          (λ k within. c.in_ok-is_printable.ensures.utf8 k (omega (arith, c.widen.auto.widths, ap length c.deref_mut.ensures.value, c.loop-row.invariant.count, within)));
    }

pub returns-clause-widths : goal.returns-clause-widths
returns-clause-widths g c =
    ap (λ widths. widths.items) c.new.ensures.widths
    ∙ widened_all g.T.AsStr.text c.args.rows.now c.loop-row.row-index c.loop-row.widths.items (omega arith) c.loop-row.invariant.count c.loop-row.invariant.widths

pub returns-clause-utf8 : goal.returns-clause-utf8
returns-clause-utf8 g c equal =
    utf8_table (texts_by g.T.AsStr.text c.args.rows.now) c.loop-row.row-index (omega (arith, c.loop-row-test.false, length-map c.args.rows.now (λ row. map g.T.AsStr.text row.items))) equal c.loop-row.invariant.utf8
