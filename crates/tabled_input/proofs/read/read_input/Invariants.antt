-- What was read so far is what the reader gave.
use Rattle.std.proofs.Common.{◌≡◌, ◌+◌, ◌-◌, ◌≤◌, vec_len}
use Rattle.std.specs.Io.KnownBytes.{Consumes}
use Rattle.tabled_input.specs.declared.read.TheConstants.{CHUNK_SIZE}
use Rattle.tabled_input.proofs.read.read_input.Given as goal

abbrev pub invariant-loop-input : goal.invariant-loop-input
invariant-loop-input g l = record {
  room : vec_len l.room ≡ CHUNK_SIZE;
  within : vec_len l.input ≤ l.limit + 1;
  taken : Consumes (g.R.Read.remaining l.initial.reader) (g.R.Read.remaining l.reader) l.input.items;
}

abbrev pub decreases-loop-input : goal.decreases-loop-input
decreases-loop-input g l = l.limit + 1 - vec_len l.input
