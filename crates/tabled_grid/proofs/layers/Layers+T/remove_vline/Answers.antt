use Rattle.tabled_places.proofs.Changing.{vertical_line_taken}
use Rattle.tabled_grid.proofs.Seen.{seen, changed, with_vertical}
use Rattle.tabled_grid.proofs.layers.Layers+T.remove_vline.Goals as goal

pub returns : goal.returns
returns g c = changed _ (seen c.self.inside) c.args.self.now _ _ c.self.view_is (with_vertical (seen c.self.inside) _ _ c.take_line.ensures.taken) (vertical_line_taken (seen c.self.inside) c.args.line)
