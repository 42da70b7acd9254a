-- One row more.
use Rattle.std.proofs.Common.{arith}
use Rattle.std.proofs.lemmas.Grind.{common_steps}
use Rattle.tabled_measure.proofs.CellLemmas.{made_more}
use Rattle.tabled_measure.proofs.Measuring.{row_at}
use Rattle.tabled_measure.proofs.changing.changed_rows.Goals as goal

pub loop-row-preserved : goal.loop-row-preserved
loop-row-preserved g c =
    let here = row_at g.T.AsStr.text c.args.rows.now c.loop-row.row c.index-rows-row.result c.loop-row-test.true c.index-rows-row.is in
    grind (arith, common_steps, made_more)
