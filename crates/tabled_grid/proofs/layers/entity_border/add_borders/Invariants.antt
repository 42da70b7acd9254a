use Rattle.std.proofs.Common.{◌≡◌, [], ◌++◌, filter}
use Rattle.tabled_object.specs.Entities.{is_inside}
use Rattle.tabled_places.specs.Calls.{borders_of}
use Rattle.tabled_places.specs.Writes.{writes_made}
use Rattle.tabled_grid.proofs.layers.entity_border.add_borders.Given as goal

abbrev pub invariant-loop-pos : goal.invariant-loop-pos
invariant-loop-pos g l =
    (goal.iterator-loop-pos g).can_next l.pos-iterator ×
    (goal.iterator-loop-pos g).is_finite l.pos-iterator ×
    writes_made l.writes.items ++ borders_of l.shape l.border l.pos-iterator ≡ writes_made l.fn.writes.items ++ borders_of l.fn.shape l.fn.border l.fn.cells ×
    (filter (is_inside l.fn.shape.0 l.fn.shape.1) l.fn.cells ≡ [] → filter (is_inside l.shape.0 l.shape.1) l.pos-iterator ≡ [])
