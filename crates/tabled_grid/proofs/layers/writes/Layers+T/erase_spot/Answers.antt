use Rattle.tabled_places.proofs.Changing.{cell_erased}
use Rattle.tabled_grid.proofs.CountedLemmas.{cell_counts, cell_taken}
use Rattle.tabled_grid.proofs.Seen.{seen, changed, with_cells}
use Rattle.tabled_grid.proofs.layers.writes.Layers+T.erase_spot.Goals as goal

pub take_cell-requires : goal.take_cell-requires
take_cell-requires g c = cell_counts _ _ c.self.invariant.0 c.args.spot

pub invariant_of-self : goal.invariant_of-self
invariant_of-self g c = (cell_taken _ _ c.self.invariant.0 _ _ c.args.spot c.take_cell.ensures.taken c.take_cell.ensures.counted c.take_cell.ensures.few, c.self.invariant.1, c.self.invariant.2)

pub returns : goal.returns
returns g c = changed _ (seen c.self.inside) c.args.self.now _ _ c.self.view_is (with_cells (seen c.self.inside) _ _ c.take_cell.ensures.taken) (cell_erased (seen c.self.inside) c.args.spot)
