use Rattle.std.proofs.Common.{◌∙◌}
use Rattle.tabled_places.proofs.Changing.{lines_erased}
use Rattle.tabled_grid.proofs.CountedLemmas.{no_lines_counted}
use Rattle.tabled_grid.proofs.Seen.{seen, changed, with_lines}
use Rattle.tabled_grid.proofs.layers.Layers+T.erase_lines.Goals as goal

pub invariant_of-self : goal.invariant_of-self
invariant_of-self g c = (
  c.self.invariant.0,
  no_lines_counted _ _ _ (c.set.ensures ∙ c.none.ensures) c.clear.ensures,
  no_lines_counted _ _ _ (c.set-2.ensures ∙ c.none-2.ensures) c.clear-2.ensures,
)

pub returns : goal.returns
returns g c = changed _ (seen c.self.inside) c.args.self.now _ _ c.self.view_is (with_lines (seen c.self.inside) _ _ _ _ c.clear.ensures c.clear-2.ensures) (lines_erased (seen c.self.inside))
