use Rattle.tabled_color.specs.Coloring.{frame_colored}
use Rattle.tabled_color.proofs.ColoringLemmas.{part_more, nothing_yet}
use Rattle.tabled_color.proofs.border_color.option.frame_writes.Goals as goal

pub returns : goal.returns
unfolding frame_colored
returns c =
    part_more _ _ _ _ c.in_ok-add_write-4.ensures
    (part_more _ _ _ _ c.in_ok-add_write-3.ensures
    (part_more _ _ _ _ c.in_ok-add_write-2.ensures
    (part_more _ _ _ _ c.in_ok-add_write.ensures
    (part_more _ _ _ _ c.in_ok-add_line-4.ensures
    (part_more _ _ _ _ c.in_ok-add_line-3.ensures
    (part_more _ _ _ _ c.in_ok-add_line-2.ensures
    (part_more _ _ _ _ c.in_ok-add_line.ensures
    (nothing_yet _ c.new-writes.ensures.items))))))))
