-- The shares so far, and those of the other columns.
use Rattle.std.proofs.Common.{◌≡◌, ◌++◌, drop}
use Rattle.tabled_width.specs.Shares.{shared}
use Rattle.tabled_width.proofs.shares.shared_out.Given as goal

abbrev pub invariant-loop-wanted : goal.invariant-loop-wanted
invariant-loop-wanted l = l.shares.items ++ shared l.cap l.left (drop l.wanted-index l.asked) ≡ shared l.cap l.initial.left l.asked
