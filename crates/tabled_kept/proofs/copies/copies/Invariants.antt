use Rattle.std.proofs.Common.{◌≡◌, take}
use Rattle.tabled_kept.proofs.copies.copies.Given as goal

abbrev pub invariant-loop-value : goal.invariant-loop-value
invariant-loop-value g l = l.copies.items ≡ take l.value-index l.values
