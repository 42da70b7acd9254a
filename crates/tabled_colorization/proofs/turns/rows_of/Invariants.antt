-- Those so far.
use Rattle.std.proofs.Common.{◌≡◌, map}
use Rattle.tabled_object.specs.declared.entity.Entity.TheVariants.{Row}
use Rattle.tabled_object.specs.Entities.{below}
use Rattle.tabled_colorization.specs.Turns.{in_turn}
use Rattle.tabled_colorization.proofs.turns.rows_of.Given as goal

abbrev pub invariant-loop-row : goal.invariant-loop-row
invariant-loop-row l = l.list.items ≡ in_turn l.colors (map (λ row. (Row row, row)) (below l.row))
