use Rattle.tabled_theme.proofs.LineMaps.{all_pushed}
use Rattle.tabled_theme.proofs.line_map.LineMap.push_to.Goals as goal

pub returns : goal.returns
returns g c =
    all_pushed c.self.inside.lines.entries c.args.self.now c.loop-index.list.items c.args.list.now.items c.loop-index.index-iterator c.into_iter-index-iterator.result
    c.into_iter-index-iterator.ensures.into_iter_gives.0 c.into_iter-index-iterator.ensures.into_iter_gives.5 c.self.view_is c.loop-index.invariant c.in-None.ensures.steps.0
