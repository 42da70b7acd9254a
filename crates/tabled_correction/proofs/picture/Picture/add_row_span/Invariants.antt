-- The rows so far.
use Rattle.std.proofs.Common.{◌≡◌, ◌++◌, ◌+◌, flat_map}
use Rattle.tabled_object.specs.Entities.{position, below}
use Rattle.tabled_correction.specs.Correction.{row_step}
use Rattle.tabled_correction.specs.Picture.{pictured}
use Rattle.tabled_correction.proofs.picture.Picture.add_row_span.Given as goal

abbrev pub invariant-loop-k : goal.invariant-loop-k
invariant-loop-k l = l.writes.items ≡ l.initial.writes.items ++ flat_map (λ k. row_step (pictured l.self) (position (l.position.row + 1 + k) l.position.col)) (below l.k)
