use Rattle.std.proofs.Common.{◌≡◌, ◌+◌, ◌<◌, ◌^◌, ◌++◌, length}
use Rattle.tabled_kept.specs.Slots.{numbered}
use Rattle.tabled_kept.proofs.numbered.NumberedEntriesIterator.next.Given as goal

-- only empty slots were passed over
abbrev pub invariant-loop-slot : goal.invariant-loop-slot
invariant-loop-slot g l =
    (l.self-inside.at + length l.self-inside.slots.now < 2 ^ 64)
    × (numbered l.self-inside.at l.self-inside.slots.now ++ l.self-inside.others ≡ l.fn.self)

abbrev pub decreases-loop-slot : goal.decreases-loop-slot
decreases-loop-slot g l = length l.self-inside.slots.now
