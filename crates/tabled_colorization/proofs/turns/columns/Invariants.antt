-- Those so far.
use Rattle.std.proofs.Common.{◌≡◌, map}
use Rattle.tabled_object.specs.declared.entity.Entity.TheVariants.{Column}
use Rattle.tabled_object.specs.Entities.{below}
use Rattle.tabled_colorization.specs.Turns.{in_turn}
use Rattle.tabled_colorization.proofs.turns.columns.Given as goal

abbrev pub invariant-loop-col : goal.invariant-loop-col
invariant-loop-col l = l.list.items ≡ in_turn l.colors (map (λ col. (Column col, col)) (below l.col))
