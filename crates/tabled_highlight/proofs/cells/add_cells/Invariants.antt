-- The cells that are in the set, and those that are left to be added.
use Rattle.std.proofs.Common.{◌≡◌, ◌&&◌, ◌||◌, [], ◌∷◌}
use Rattle.std.specs.List.{list_any}
use Rattle.tabled_object.specs.declared.position.Position.{Position}
use Rattle.tabled_object.specs.Entities.{is_inside}
use Rattle.tabled_object.specs.Listing.{listed}
use Rattle.tabled_object.proofs.Sets.{is_here}
use Rattle.tabled_highlight.specs.Around.{has}
use Rattle.tabled_highlight.proofs.cells.add_cells.Given as goal

abbrev pub invariant-loop-pos : goal.invariant-loop-pos
invariant-loop-pos l =
    goal.iterator-loop-pos.can_next l.pos-iterator ×
    goal.iterator-loop-pos.is_finite l.pos-iterator ×
    ((pos : Position) → (has l.cells.keys pos || (is_inside l.shape.0 l.shape.1 pos && list_any (is_here pos) l.pos-iterator))
    ≡ (has l.fn.cells.keys pos || listed (l.fn.entity ∷ []) l.shape.0 l.shape.1 pos))
