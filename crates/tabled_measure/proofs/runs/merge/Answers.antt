use Rattle.tabled_configuration.specs.ChangeLaws.{none_change_borders}
use Rattle.tabled_measure.specs.Runs.{spanned_by}
use Rattle.tabled_measure.proofs.InTurn.{one_put}
use Rattle.tabled_measure.proofs.runs.merge.Goals as goal

pub loop-run-init : goal.loop-run-init
loop-run-init c = none_change_borders c.args.cfg.now

pub loop-run-preserved : goal.loop-run-preserved
loop-run-preserved c = one_put (spanned_by c.args.down) c.args.runs.now c.loop-run.run-index _ c.args.cfg.now c.loop-run.cfg c.set_span.new.cfg c.loop-run-test.true c.loop-run.invariant c.in_ok-set_span.ensures.ok
