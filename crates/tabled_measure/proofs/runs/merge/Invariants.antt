use Rattle.std.proofs.Common.{take}
use Rattle.tabled_configuration.specs.Configuration.{Changes}
use Rattle.tabled_measure.specs.Runs.{merged}
use Rattle.tabled_measure.proofs.runs.merge.Given as goal

abbrev pub invariant-loop-run : goal.invariant-loop-run
invariant-loop-run l = Changes (merged l.down (take l.run-index l.runs)) l.fn.cfg l.cfg
