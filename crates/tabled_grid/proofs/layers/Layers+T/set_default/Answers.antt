use Rattle.std.proofs.Common.{Some}
use Rattle.tabled_places.proofs.Changing.{default_set}
use Rattle.tabled_grid.proofs.Seen.{seen, changed, with_default}
use Rattle.tabled_grid.proofs.layers.Layers+T.set_default.Goals as goal

pub returns : goal.returns
returns g c = changed _ (seen c.self.inside) c.args.self.now _ _ c.self.view_is (with_default (seen c.self.inside) c.replace.new.self (Some c.args.value) c.replace.ensures.kept) (default_set (seen c.self.inside) c.args.value)
