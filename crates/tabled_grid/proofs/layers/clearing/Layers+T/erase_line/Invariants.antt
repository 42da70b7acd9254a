use Rattle.tabled_places.specs.Calls.{spots_erased, edge_of, crossing_of}
use Rattle.tabled_places.specs.Event.{Changes}
use Rattle.tabled_places.specs.State.{state_at}
use Rattle.tabled_places.proofs.Clearing.{so_far}
use Rattle.tabled_grid.proofs.layers.clearing.Layers+T.erase_line.Given as goal

abbrev pub invariant-loop-at : goal.invariant-loop-at
invariant-loop-at g l = Changes (spots_erased (so_far (edge_of l.fn.line) (crossing_of l.fn.line) l.at)) (state_at l.fn.self) (state_at l.self)
