-- The crossings of the lines so far.
use Rattle.std.proofs.Common.{◌≡◌, ◌++◌, flat_map}
use Rattle.tabled_object.specs.Entities.{below}
use Rattle.tabled_correction.specs.Corners.{horizontal_drawn, vertical_drawn, line_joined}
use Rattle.tabled_correction.specs.Picture.{pictured}
use Rattle.tabled_correction.proofs.picture.Picture.join_corners.Given as goal

abbrev pub invariant-loop-row : goal.invariant-loop-row
invariant-loop-row l =
    l.writes.items ≡ l.initial.writes.items ++ flat_map (line_joined (pictured l.self) (horizontal_drawn l.self.shape l.self.cfg.now) (vertical_drawn l.self.shape l.self.cfg.now)) (below l.row)
