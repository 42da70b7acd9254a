-- Those copied so far.
use Rattle.std.proofs.Common.{◌≡◌, take}
use Rattle.tabled_colorization.proofs.colorization.ColorizationKeep.keep.Given as goal

abbrev pub invariant-loop-color : goal.invariant-loop-color
invariant-loop-color l = l.colors.items ≡ take l.color-index l.color-items
