-- What is left so far.
use Rattle.std.proofs.Common.{◌≡◌, ◌+◌, take}
use Rattle.tabled_width.specs.Shares.{used}
use Rattle.tabled_width.proofs.shares.left_over.Given as goal

abbrev pub invariant-loop-wanted : goal.invariant-loop-wanted
invariant-loop-wanted l = l.left + used l.cap (take l.wanted-index l.asked) ≡ l.room
