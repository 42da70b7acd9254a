-- The widths over the columns so far.
use Rattle.std.proofs.Common.{◌≡◌, ℕ, ◌<◌, false, length, min, slice_index, slice_index_or}
use Rattle.tabled_rooms.specs.declared.host.Host.{Host}
use Rattle.tabled_rooms.specs.Holding.{cell_of}
use Rattle.tabled_rooms.specs.Rooms.{room_width}
use Rattle.tabled_rooms.proofs.lines.room_widths.Given as goal

abbrev pub invariant-loop-wide : goal.invariant-loop-wide
invariant-loop-wide l = (k : ℕ) → k < l.wide-index → slice_index l.wides k ≡ 0

abbrev pub invariant-loop-col : goal.invariant-loop-col
invariant-loop-col l = (first : ℕ) (none : Host) → first < length l.wides
    → slice_index l.wides first ≡ min (room_width (slice_index l.widths) (λ c. slice_index_or l.drawn c false) (λ c. cell_of (slice_index_or l.hosts c none)) l.col first) 18446744073709551615
