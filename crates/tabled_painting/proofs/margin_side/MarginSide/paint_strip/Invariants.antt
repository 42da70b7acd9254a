-- The characters so far.
use Rattle.std.specs.List.{flat_map}
use Rattle.tabled_object.specs.Entities.{below}
use Rattle.tabled_painting.specs.InColor.{Paints}
use Rattle.tabled_painting.specs.Margin.{side_of, side_at}
use Rattle.tabled_painting.proofs.margin_side.MarginSide.paint_strip.Given as goal

abbrev pub invariant-loop-n : goal.invariant-loop-n
invariant-loop-n g l = Paints g.O.Output.gains (flat_map (λ n. side_at (side_of l.self) l.long n 1) (below l.n)) l.initial.painter l.painter
