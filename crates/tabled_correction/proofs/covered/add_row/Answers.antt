use Rattle.std.proofs.Common.{◌==◌, ◌&&◌, ◌||◌, ◌∙◌, ap, arith}
use Rattle.tabled_correction.proofs.CoveredLemmas.{put_in, one_cell_more, all_of}
use Rattle.tabled_correction.specs.Covered.{has}
use Rattle.tabled_correction.proofs.covered.add_row.Goals as goal

pub loop-col-preserved : goal.loop-col-preserved
loop-col-preserved c = (
  omega (arith, c.loop-col.invariant.0),
  grind (arith, c.loop-col.invariant.1, c.loop-col-test.true),
  λ cell. put_in c.loop-col.cells c.insert.new.self c.new.result c.in_ok-insert.ensures.updates cell
      ∙ (λ i. ((cell.row == c.new.ensures.row i) && (cell.col == c.new.ensures.col i)) || c.loop-col.invariant.2 cell i)
      ∙ one_cell_more c.args.row c.args.cols.start c.loop-col.col cell.row cell.col (has c.args.cells.now.keys cell) c.loop-col.invariant.0,
)

pub returns : goal.returns
returns c = λ cell.
    c.loop-col.invariant.2 cell
    ∙ ap (λ b. has c.args.cells.now.keys cell || ((cell.row == c.args.row) && b)) (all_of c.args.cols.start c.args.cols.end c.loop-col.col cell.col c.loop-col.invariant.1 c.loop-col-test.false)
