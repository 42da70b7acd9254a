-- The crossings of the line so far.
use Rattle.std.proofs.Common.{◌≡◌, ◌++◌, flat_map}
use Rattle.tabled_object.specs.Entities.{below}
use Rattle.tabled_correction.specs.Correction.{where_so}
use Rattle.tabled_correction.specs.Corners.{corner_step, vertical_drawn}
use Rattle.tabled_correction.specs.Picture.{pictured}
use Rattle.tabled_correction.proofs.picture.Picture.join_line.Given as goal

abbrev pub invariant-loop-col : goal.invariant-loop-col
invariant-loop-col l =
    l.writes.items ≡ l.initial.writes.items ++ flat_map (λ k. where_so (vertical_drawn l.self.shape l.self.cfg.now k) (corner_step (pictured l.self) l.row k)) (below l.col)
