-- Those so far.
use Rattle.std.proofs.Common.{◌≡◌, ◌+◌, ◌*◌, map, flat_map}
use Rattle.tabled_object.specs.declared.entity.Entity.TheVariants.{Cell}
use Rattle.tabled_object.specs.Entities.{below}
use Rattle.tabled_colorization.specs.Turns.{in_turn}
use Rattle.tabled_colorization.proofs.turns.by_column.Given as goal

abbrev pub invariant-loop-col : goal.invariant-loop-col
invariant-loop-col l = l.list.items ≡ in_turn l.colors (flat_map (λ col. map (λ row. (Cell row col, col * l.rows + row)) (below l.rows)) (below l.col))
