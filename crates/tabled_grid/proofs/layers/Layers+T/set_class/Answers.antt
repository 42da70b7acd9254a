use Rattle.tabled_places.proofs.Changing.{class_put}
use Rattle.tabled_grid.proofs.Seen.{seen, changed, with_class}
use Rattle.tabled_grid.proofs.layers.Layers+T.set_class.Goals as goal

pub returns : goal.returns
returns g c = changed _ (seen c.self.inside) c.args.self.now _ _ c.self.view_is (with_class (seen c.self.inside) c.replace.new.self c.args.borders c.replace.ensures.kept) (class_put (seen c.self.inside) c.args.borders)
