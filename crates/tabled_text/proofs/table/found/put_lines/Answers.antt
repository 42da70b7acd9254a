use Rattle.tabled_places.specs.Calls.{line_set_horizontal}
use Rattle.tabled_configuration.specs.ChangeLaws.{none_change_borders}
use Rattle.tabled_configuration.specs.Configuration.{by_characters}
use Rattle.tabled_measure.proofs.InTurn.{one_put}
use Rattle.tabled_text.proofs.table.found.put_lines.Goals as goal

pub loop-row-init : goal.loop-row-init
loop-row-init c = none_change_borders c.args.cfg.now

pub loop-row-preserved : goal.loop-row-preserved
loop-row-preserved c = one_put (λ row. by_characters (line_set_horizontal row c.args.line)) c.args.rows.now c.loop-row.row-index _ c.args.cfg.now c.loop-row.cfg c.insert_horizontal_line.new.self c.loop-row-test.true c.loop-row.invariant c.in_ok-insert_horizontal_line.ensures.ok
