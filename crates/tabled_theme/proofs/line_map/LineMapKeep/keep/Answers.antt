use Rattle.std.specs.Cmp.{nat_cmp_total}
use Rattle.tabled_kept.proofs.Ascending.{copied_further}
use Rattle.tabled_theme.proofs.LineMaps.{still_ascending}
use Rattle.tabled_theme.proofs.line_map.LineMapKeep.keep.Goals as goal

pub loop-index-preserved : goal.loop-index-preserved
loop-index-preserved g c =
    copied_further nat_cmp_total c.into_iter-index-iterator.result
    (still_ascending c.self.inside.lines.entries c.into_iter-index-iterator.result c.into_iter-index-iterator.ensures.into_iter_gives.0 c.into_iter-index-iterator.ensures.into_iter_gives.5)
    c.loop-index.lines.entries c.loop-index.index-iterator c.in-Some.index.now c.in-Some.line.now c.next.new.self _ c.loop-index.invariant c.in-Some.ensures.steps c.in_ok-put_copy.ensures
