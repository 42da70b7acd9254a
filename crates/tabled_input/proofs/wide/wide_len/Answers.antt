-- A gap is reached.
use Rattle.std.proofs.Common.{arith}
use Rattle.std.proofs.lemmas.Grind.{common_steps}
use Rattle.tabled_input.proofs.WideCells.{wide_at}
use Rattle.tabled_input.proofs.wide.wide_len.Goals as goal

pub returns-then-begins_gap : goal.returns-then-begins_gap
returns-then-begins_gap c = grind (arith, common_steps, wide_at c.args.line.now c.loop-at.at (omega arith))
