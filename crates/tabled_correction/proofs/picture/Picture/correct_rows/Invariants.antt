-- The spans so far, and those to come.
use Rattle.std.proofs.Common.{◌≡◌, ◌++◌, flat_map}
use Rattle.tabled_correction.specs.Correction.{row_span_step}
use Rattle.tabled_correction.specs.Picture.{pictured}
use Rattle.tabled_correction.proofs.picture.Picture.correct_rows.Given as goal

abbrev pub invariant-loop-position : goal.invariant-loop-position
invariant-loop-position l =
    l.writes.items ++ flat_map (row_span_step (pictured l.self)) l.position-iterator
    ≡ l.initial.writes.items ++ flat_map (row_span_step (pictured l.self)) l.initial.position-iterator
