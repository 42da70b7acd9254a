use Rattle.tabled_places.proofs.BordersLemmas.{nothing_found}
use Rattle.tabled_places.proofs.borders.Borders.is_empty.Goals as goal

pub returns : goal.returns
returns g c = nothing_found c.args.self.now _ _ _ _ _ _ _ c.contains.ensures.value c.has_top.ensures c.has_horizontal.ensures c.has_bottom.ensures c.has_left.ensures c.has_vertical.ensures c.has_right.ensures
