-- The cells of the entities so far, and those of the entities that are left.
use Rattle.std.proofs.Common.{◌≡◌, ◌||◌}
use Rattle.tabled_object.specs.declared.position.Position.{Position}
use Rattle.tabled_object.specs.Listing.{listed}
use Rattle.tabled_highlight.specs.Around.{has}
use Rattle.tabled_highlight.proofs.cells.cells_inside.Given as goal

abbrev pub invariant-loop-entity : goal.invariant-loop-entity
invariant-loop-entity l =
    (pos : Position) → (has l.cells.keys pos || listed l.entity-iterator l.shape.0 l.shape.1 pos) ≡ listed l.fn.entities.keys l.shape.0 l.shape.1 pos
