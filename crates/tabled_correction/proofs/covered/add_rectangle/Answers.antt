use Rattle.std.proofs.Common.{◌==◌, ◌&&◌, ◌||◌, ◌∙◌, ap, arith}
use Rattle.tabled_correction.proofs.CoveredLemmas.{one_row_more, all_of}
use Rattle.tabled_correction.specs.Covered.{has, is_in}
use Rattle.tabled_correction.proofs.covered.add_rectangle.Goals as goal

pub loop-row-preserved : goal.loop-row-preserved
loop-row-preserved c = (
  omega (arith, c.loop-row.invariant.0),
  grind (arith, c.loop-row.invariant.1, c.loop-row-test.true),
  λ cell. c.in_ok-add_row.ensures cell ∙ ap (λ b. b || ((cell.row == c.loop-row.row) && is_in c.args.cols cell.col)) (c.loop-row.invariant.2 cell)
      ∙ one_row_more c.args.rows.start c.loop-row.row cell.row (has c.args.cells.now.keys cell) (is_in c.args.cols cell.col) c.loop-row.invariant.0,
)

pub returns : goal.returns
returns c = λ cell.
    c.loop-row.invariant.2 cell
    ∙ ap (λ b. has c.args.cells.now.keys cell || (b && is_in c.args.cols cell.col)) (all_of c.args.rows.start c.args.rows.end c.loop-row.row cell.row c.loop-row.invariant.1 c.loop-row-test.false)
