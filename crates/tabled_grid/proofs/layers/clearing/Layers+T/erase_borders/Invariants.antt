use Rattle.tabled_places.specs.Calls.{borders_erased}
use Rattle.tabled_places.specs.Event.{Changes}
use Rattle.tabled_places.specs.State.{State, state_at}
use Rattle.tabled_grid.proofs.layers.clearing.Layers+T.erase_borders.Given as goal

abbrev pub invariant-loop-pos : goal.invariant-loop-pos
invariant-loop-pos g l =
    (goal.iterator-loop-pos g).can_next l.pos-iterator ×
    (goal.iterator-loop-pos g).is_finite l.pos-iterator ×
    ((end : State g.row.T.Denot) → Changes (borders_erased l.shape l.pos-iterator) (state_at l.self) (state_at end) → Changes (borders_erased l.fn.shape l.fn.cells) (state_at l.fn.self) (state_at end))
