use Rattle.std.proofs.Common.{◌≡◌, fold, take, false, slice_index_or}
use Rattle.tabled_rooms.specs.Growing.{grown_for}
use Rattle.tabled_rooms.proofs.growing.grow_for_each.Given as goal

abbrev pub invariant-loop-ask : goal.invariant-loop-ask
invariant-loop-ask l = l.sizes ≡ fold (grown_for (λ n. slice_index_or l.drawn n false)) l.initial.sizes (take l.ask-index l.asks)
