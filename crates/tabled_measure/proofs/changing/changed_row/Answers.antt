-- One cell more.
use Rattle.std.proofs.Common.{arith}
use Rattle.std.proofs.lemmas.Grind.{common_steps}
use Rattle.tabled_measure.proofs.CellLemmas.{made_more}
use Rattle.tabled_measure.proofs.Measuring.{cell_at}
use Rattle.tabled_measure.proofs.changing.changed_row.Goals as goal

pub loop-col-preserved : goal.loop-col-preserved
loop-col-preserved g c =
    let here = cell_at g.T.AsStr.text c.args.cells.now c.loop-col.col c.index-cells-col.result c.loop-col-test.true c.index-cells-col.is in
    grind (arith, common_steps, made_more)
