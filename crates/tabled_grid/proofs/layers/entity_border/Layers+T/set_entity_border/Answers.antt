use Rattle.tabled_places.specs.State.{state_at}
use Rattle.tabled_places.proofs.EntityBorders.{sure_without_cells}
use Rattle.tabled_grid.proofs.layers.entity_border.Layers+T.set_entity_border.Goals as goal

pub returns-clause-without_cells : goal.returns-clause-without_cells
returns-clause-without_cells g c = λ none. sure_without_cells c.args.shape c.args.border.now _ (state_at c.args.self.now) _ c.write_all.result c.in_ok-writes.ensures.ok none c.write_all.ensures.absent
