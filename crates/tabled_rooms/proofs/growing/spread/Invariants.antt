use Rattle.std.proofs.Common.{◌≡◌, ℕ, ◌+◌, ◌<◌, length, slice_index}
use Rattle.tabled_rooms.proofs.GrowLemmas.{share_so_far}
use Rattle.tabled_rooms.proofs.growing.spread.Given as goal

abbrev pub invariant-loop-k : goal.invariant-loop-k
invariant-loop-k l = (n : ℕ) → n < length l.initial.sizes → slice_index l.sizes n ≡ slice_index l.initial.sizes n + share_so_far l.ask l.missing l.k n
