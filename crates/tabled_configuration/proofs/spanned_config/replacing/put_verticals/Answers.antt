use Rattle.tabled_configuration.proofs.Replacing.{vertical_put, no_vertical_put}
use Rattle.tabled_configuration.proofs.spanned_config.replacing.put_verticals.Goals as goal

pub loop-line-init : goal.loop-line-init
loop-line-init c = no_vertical_put c.args.store.now

pub loop-line-preserved : goal.loop-line-preserved
loop-line-preserved c = vertical_put c.args.lines.now c.loop-line.line-index _ c.args.store.now c.loop-line.store c.insert_vline.new.self c.loop-line-test.true c.loop-line.invariant c.in_ok-insert_vline.ensures.ok
