-- The crossings so far.
use Rattle.std.proofs.Common.{◌≡◌, ◌++◌, map, take}
use Rattle.tabled_places.specs.Writes.{writes_made}
use Rattle.tabled_correction.specs.Correction.{crossing_written}
use Rattle.tabled_correction.proofs.border_correction.push_all.Given as goal

abbrev pub invariant-loop-crossing : goal.invariant-loop-crossing
invariant-loop-crossing l = writes_made l.writes.items ≡ writes_made l.initial.writes.items ++ map crossing_written (take l.crossing-index l.crossings)
