-- Those so far.
use Rattle.std.proofs.Common.{◌≡◌, ◌+◌, ◌++◌, map}
use Rattle.tabled_object.specs.declared.entity.Entity.TheVariants.{Cell}
use Rattle.tabled_object.specs.Entities.{below}
use Rattle.tabled_colorization.specs.Turns.{in_turn}
use Rattle.tabled_colorization.proofs.turns.add_column.Given as goal

abbrev pub invariant-loop-row : goal.invariant-loop-row
invariant-loop-row l = l.list.items ≡ l.fn.list.items ++ in_turn l.colors (map (λ row. (Cell row l.col, l.first + row)) (below l.row))
