use Rattle.std.proofs.Common.{ap, option_copied, ◌++◌, ◌∙◌}
use Rattle.tabled_places.proofs.EntityBorders.{nothing_written}
use Rattle.tabled_highlight.specs.Around.{has, written_around_each}
use Rattle.tabled_highlight.proofs.Adding.{one_cell_more}
use Rattle.tabled_highlight.proofs.around.writes_around.Goals as goal

pub loop-pos-init : goal.loop-pos-init
loop-pos-init g c =
    let left = written_around_each (record { border = c.args.border.now; diagonal = option_copied c.args.diagonal }) (has c.args.cells.now.keys) in
    ap (λ es. es ++ left c.into_iter-pos-iterator.result) (nothing_written c.new-writes.result.items c.new-writes.ensures.items) ∙ ap left c.into_iter-pos-iterator.ensures.into_iter_gives.0

pub loop-pos-preserved : goal.loop-pos-preserved
loop-pos-preserved g c =
    one_cell_more (record { border = c.args.border.now; diagonal = option_copied c.args.diagonal }) (has c.args.cells.now.keys) c.in-Some.pos.now c.of-near.result c.loop-pos.pos-iterator c.next.new.self _ _ _ _
    c.in-Some.ensures.steps c.of-near.ensures c.in_ok-add_sides.ensures c.in_ok-add_corners.ensures c.loop-pos.invariant
