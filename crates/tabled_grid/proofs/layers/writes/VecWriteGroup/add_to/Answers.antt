use Rattle.std.proofs.Common.{ap, ◌∙◌}
use Rattle.tabled_places.specs.Writes.{writes_made}
use Rattle.tabled_places.proofs.EntityBorders.{writes_made-append}
use Rattle.tabled_grid.proofs.layers.writes.VecWriteGroup.add_to.Goals as goal

pub returns : goal.returns
returns g c = ap writes_made c.in_ok-append.ensures.items ∙ writes_made-append c.args.list.now.items c.args.self.items
