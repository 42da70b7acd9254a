-- The cells so far, and those to come.
use Rattle.std.proofs.Common.{◌≡◌, true, ◌++◌, flat_map}
use Rattle.tabled_object.specs.declared.position.Position.{Position}
use Rattle.tabled_object.specs.Entities.{is_inside}
use Rattle.tabled_correction.specs.Correction.{inner_step}
use Rattle.tabled_correction.specs.Covered.{has}
use Rattle.tabled_correction.specs.Picture.{pictured}
use Rattle.tabled_correction.proofs.picture.Picture.correct_inner.Given as goal

abbrev pub invariant-loop-cell : goal.invariant-loop-cell
invariant-loop-cell l =
    ((cell : Position) → has l.cell-iterator cell ≡ true → is_inside l.self.shape.0 l.self.shape.1 cell ≡ true)
    × (l.writes.items ++ flat_map (inner_step (pictured l.self)) l.cell-iterator ≡ l.initial.writes.items ++ flat_map (inner_step (pictured l.self)) l.initial.cell-iterator)
