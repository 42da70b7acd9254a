use Rattle.tabled_places.proofs.Changing.{cells_erased}
use Rattle.tabled_grid.proofs.CountedLemmas.{no_cells_counted}
use Rattle.tabled_grid.proofs.Seen.{seen, changed, with_cells}
use Rattle.tabled_grid.proofs.layers.Layers+T.erase_cells.Goals as goal

pub invariant_of-self : goal.invariant_of-self
invariant_of-self g c = (no_cells_counted _ _ c.clear-2.ensures c.clear.ensures, c.self.invariant.1, c.self.invariant.2)

pub returns : goal.returns
returns g c = changed _ (seen c.self.inside) c.args.self.now _ _ c.self.view_is (with_cells (seen c.self.inside) _ _ c.clear.ensures) (cells_erased (seen c.self.inside))
