-- The counts over the columns so far.
use Rattle.std.proofs.Common.{◌≡◌, ℕ, ◌<◌, length, slice_index, slice_index_or}
use Rattle.tabled_rooms.specs.declared.host.Host.{Host}
use Rattle.tabled_rooms.specs.Holding.{cell_of}
use Rattle.tabled_rooms.specs.Sizes.{columns_taken}
use Rattle.tabled_rooms.proofs.sizes.count_columns.Given as goal

abbrev pub invariant-loop-count : goal.invariant-loop-count
invariant-loop-count l = (k : ℕ) → k < l.count-index → slice_index l.counts k ≡ 0

abbrev pub invariant-loop-host : goal.invariant-loop-host
invariant-loop-host l = (c : ℕ) (none : Host) → c < length l.counts → slice_index l.counts c ≡ columns_taken (λ k. cell_of (slice_index_or l.hosts k none)) l.host-index c
