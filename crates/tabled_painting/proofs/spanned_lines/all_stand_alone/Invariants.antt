-- The cells so far.
use Rattle.std.proofs.Common.{◌≡◌, ◌+◌, ◌<◌, ℕ}
use Rattle.std.specs.Prelude.{slice_index_or}
use Rattle.tabled_rooms.specs.declared.host.Host.{Host}
use Rattle.tabled_painting.proofs.spanned_lines.all_stand_alone.Given as goal

abbrev pub invariant-loop-col : goal.invariant-loop-col
invariant-loop-col l = (k : ℕ) (none : Host) → k < l.col → let one = slice_index_or l.hosts k none in (one.row ≡ l.row) × (one.col ≡ k) × (one.bottom ≡ l.row + 1)
