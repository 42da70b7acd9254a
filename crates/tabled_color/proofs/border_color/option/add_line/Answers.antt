use Rattle.tabled_color.proofs.ColoringLemmas.{nothing_added, both_written, no_line_yet}
use Rattle.tabled_color.proofs.border_color.option.add_line.Goals as goal

pub returns-then-is_none : goal.returns-then-is_none
returns-then-is_none c = nothing_added c.args.line c.args.length c.args.color.now _ c.if-is_none.ensures

pub loop-at-init : goal.loop-at-init
loop-at-init c = no_line_yet c.args.line c.args.color.now _

pub loop-at-preserved : goal.loop-at-preserved
loop-at-preserved c =
    both_written c.args.line c.loop-at.at c.args.color.now _ _ _ _ _ _ c.loop-at.invariant c.in_ok-add_write.ensures c.in_ok-add_write-2.ensures c.edge.ensures c.crossing.ensures
