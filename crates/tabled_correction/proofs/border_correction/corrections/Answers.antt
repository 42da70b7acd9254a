use Rattle.std.proofs.Common.{List, ◌++◌, map, ap, ◌∙◌}
use Rattle.tabled_grid.proofs.Seen.{if_ok}
use Rattle.tabled_correction.specs.Correction.{Spanned, Write, spanned, after_writes, columns_corrected, rows_corrected, inner_corrected, crossing_written}
use Rattle.tabled_correction.specs.Picture.{pictured}
use Rattle.tabled_correction.proofs.Adding.{three_steps, from_nothing}
use Rattle.tabled_correction.proofs.border_correction.corrections.Goals as goal

pub returns : goal.returns
returns c =
    let first : Spanned = pictured c.in_ok-picture.picture in
    let second : Spanned = pictured c.write.new.self in
    let third : Spanned = pictured c.write-2.new.self in
    let by_columns : List Write = c.correct_columns.new.writes.items in
    let by_rows : List Write = c.correct_rows.new.writes.items in
    let inner : List Write = c.correct_inner.new.writes.items in
    if_ok c.in_a_row.result (λ writes made.
    made ∙ ap (map crossing_written) (
    (λ i. c.deref-3.ensures.value i ++ (c.deref-4.ensures.value i ++ c.deref-5.ensures.value i))
    ∙ three_steps (spanned c.args.shape c.args.cfg.now) first second third by_columns by_rows inner c.in_ok-picture.ensures.pictured
    (from_nothing c.new-by_columns.result.items by_columns (columns_corrected first) c.new-by_columns.ensures.items c.in_ok-correct_columns.ensures)
    (c.in_ok-write.ensures ∙ ap (after_writes first) c.deref.ensures.value)
    (from_nothing c.new-by_rows.result.items by_rows (rows_corrected second) c.new-by_rows.ensures.items c.in_ok-correct_rows.ensures)
    (c.in_ok-write-2.ensures ∙ ap (after_writes second) c.deref-2.ensures.value)
    (from_nothing c.new-inner.result.items inner (inner_corrected third) c.new-inner.ensures.items c.in_ok-correct_inner.ensures)
    )) c.in_a_row.ensures
