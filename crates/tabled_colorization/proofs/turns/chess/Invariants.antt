-- Those so far.
use Rattle.std.proofs.Common.{◌≡◌, ◌+◌, map, flat_map}
use Rattle.tabled_object.specs.declared.entity.Entity.TheVariants.{Cell}
use Rattle.tabled_object.specs.Entities.{below}
use Rattle.tabled_colorization.specs.Turns.{in_turn}
use Rattle.tabled_colorization.proofs.turns.chess.Given as goal

abbrev pub invariant-loop-row : goal.invariant-loop-row
invariant-loop-row l = l.list.items ≡ in_turn l.colors (flat_map (λ row. map (λ col. (Cell row col, row + col)) (below l.cols)) (below l.row))
