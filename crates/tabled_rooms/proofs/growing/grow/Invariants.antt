use Rattle.std.proofs.Common.{◌≡◌, fold, false, slice_index_or}
use Rattle.tabled_rooms.specs.Growing.{grown_for, by_count}
use Rattle.tabled_rooms.proofs.growing.grow.Given as goal

abbrev pub invariant-loop-list : goal.invariant-loop-list
invariant-loop-list l = l.sizes ≡ fold (grown_for (λ n. slice_index_or l.drawn n false)) l.initial.sizes (by_count l.list-index l.asks)
