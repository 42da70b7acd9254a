use Rattle.std.proofs.Common.{◌≡◌, [], filter}
use Rattle.tabled_object.specs.Entities.{is_inside}
use Rattle.tabled_places.specs.Calls.{borders_of}
use Rattle.tabled_places.specs.Event.{Changes}
use Rattle.tabled_places.specs.State.{State, state_at}
use Rattle.tabled_grid.proofs.FirstBorders.{IsSameBesideCells}
use Rattle.tabled_grid.proofs.layers.entity_border.Layers+T.write_first_borders.Given as goal

abbrev pub invariant-loop-pos : goal.invariant-loop-pos
invariant-loop-pos g l = record {
  can_next : (goal.iterator-loop-pos g).can_next l.pos-iterator;
  is_finite : (goal.iterator-loop-pos g).is_finite l.pos-iterator;
  written : (end : State g.row.T.Denot) → Changes (borders_of l.shape l.border l.pos-iterator) (state_at l.self) (state_at end) → Changes (borders_of l.fn.shape l.fn.border l.fn.cells) (state_at l.fn.self) (state_at end);
  beside : IsSameBesideCells l.fn.self l.self;
  none_inside : filter (is_inside l.fn.shape.0 l.fn.shape.1) l.fn.cells ≡ [] → filter (is_inside l.shape.0 l.shape.1) l.pos-iterator ≡ [];
}
