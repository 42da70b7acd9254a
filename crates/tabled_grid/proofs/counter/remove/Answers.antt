use Rattle.tabled_grid.proofs.Numbers.{lowered, lowered_last}
use Rattle.tabled_grid.proofs.counter.remove.Goals as goal

pub returns-then-number-gt1 : goal.returns-then-number-gt1
returns-then-number-gt1 c = lowered c.insert.result _ _ c.args.line c.unwrap_or-number.result (cc) c.if-number-gt1.true c.insert.ensures.ok c.insert.ensures.absent

pub returns-else-number-gt1 : goal.returns-else-number-gt1
returns-else-number-gt1 c = lowered_last _ _ c.args.line c.unwrap_or-number.result (cc) c.if-number-gt1.false c.remove.ensures.removed
