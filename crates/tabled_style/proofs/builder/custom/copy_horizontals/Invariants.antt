use Rattle.std.proofs.Common.{◌≡◌, take}
use Rattle.tabled_style.proofs.builder.custom.copy_horizontals.Given as goal

abbrev pub invariant-loop-i : goal.invariant-loop-i
invariant-loop-i g l = take l.i l.lines ≡ take l.i l.list
