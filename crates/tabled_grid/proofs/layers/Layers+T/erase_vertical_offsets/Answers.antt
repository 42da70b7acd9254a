use Rattle.tabled_places.proofs.Changing.{vertical_offsets_erased}
use Rattle.tabled_grid.proofs.Seen.{seen, changed, with_vertical_offsets}
use Rattle.tabled_grid.proofs.layers.Layers+T.erase_vertical_offsets.Goals as goal

pub returns : goal.returns
returns g c = changed _ (seen c.self.inside) c.args.self.now _ _ c.self.view_is (with_vertical_offsets (seen c.self.inside) _ _ c.clear.ensures) (vertical_offsets_erased (seen c.self.inside))
