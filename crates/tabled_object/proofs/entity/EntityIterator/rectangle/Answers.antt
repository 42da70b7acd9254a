use Rattle.std.proofs.Common.{◌<◌, sym, inl, inr, arith}
use Rattle.tabled_object.proofs.Rectangles.{no_rows, nothing_high, nothing_wide, from_the_start}
use Rattle.tabled_object.proofs.entity.EntityIterator.rectangle.Goals as goal

pub returns-then-row_count-eq0 : goal.returns-then-row_count-eq0
returns-then-row_count-eq0 c =
    let rows = c.args.rows in
    let cols = c.args.cols in
    rw no_rows
    (elim c.then-row_count-eq0.either [
      | inl none ↦ sym (nothing_high rows.0 cols.0 rows.1 cols.1 none)
      | inr none ↦ sym (nothing_wide rows.0 cols.0 rows.1 cols.1 none.1)
    ])

pub returns : goal.returns
returns c =
    let some : 0 < c.args.rows.1 = omega arith in
    sym (from_the_start c.args.rows.0 c.args.cols.0 c.args.rows.1 c.args.cols.1 some)
