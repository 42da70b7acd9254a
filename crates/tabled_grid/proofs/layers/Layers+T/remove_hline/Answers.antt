use Rattle.tabled_places.proofs.Changing.{horizontal_line_taken}
use Rattle.tabled_grid.proofs.Seen.{seen, changed, with_horizontal}
use Rattle.tabled_grid.proofs.layers.Layers+T.remove_hline.Goals as goal

pub returns : goal.returns
returns g c = changed _ (seen c.self.inside) c.args.self.now _ _ c.self.view_is (with_horizontal (seen c.self.inside) _ _ c.take_line.ensures.taken) (horizontal_line_taken (seen c.self.inside) c.args.line)
