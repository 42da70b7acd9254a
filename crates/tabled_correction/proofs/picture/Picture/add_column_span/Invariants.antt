-- The columns so far.
use Rattle.std.proofs.Common.{◌≡◌, ◌++◌, ◌+◌, ◌==◌, flat_map}
use Rattle.tabled_object.specs.Entities.{position, below}
use Rattle.tabled_correction.specs.Correction.{column_step}
use Rattle.tabled_correction.specs.Picture.{pictured}
use Rattle.tabled_correction.proofs.picture.Picture.add_column_span.Given as goal

abbrev pub invariant-loop-k : goal.invariant-loop-k
invariant-loop-k l = l.writes.items ≡ l.initial.writes.items ++ flat_map (λ k. column_step (pictured l.self) (k == 0) (position l.position.row (l.position.col + k))) (below l.k)
