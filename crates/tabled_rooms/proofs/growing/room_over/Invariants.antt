use Rattle.std.proofs.Common.{◌≡◌, false, slice_index_or}
use Rattle.std.specs.List.{sum_by, range_with_len}
use Rattle.tabled_rooms.specs.Growing.{size_part}
use Rattle.tabled_rooms.proofs.growing.room_over.Given as goal

abbrev pub invariant-loop-k : goal.invariant-loop-k
invariant-loop-k l = l.room ≡ sum_by (size_part l.sizes (λ n. slice_index_or l.drawn n false) l.ask.first) (range_with_len l.ask.first l.k)
