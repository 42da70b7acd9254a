use Rattle.tabled_places.proofs.Changing.{horizontal_offsets_erased}
use Rattle.tabled_grid.proofs.Seen.{seen, changed, with_horizontal_offsets}
use Rattle.tabled_grid.proofs.layers.Layers+T.erase_horizontal_offsets.Goals as goal

pub returns : goal.returns
returns g c = changed _ (seen c.self.inside) c.args.self.now _ _ c.self.view_is (with_horizontal_offsets (seen c.self.inside) _ _ c.clear.ensures) (horizontal_offsets_erased (seen c.self.inside))
