-- The texts of the colors so far.
use Rattle.std.proofs.Common.{◌≡◌, map, take}
use Rattle.tabled_color.specs.Shade.{texts_of}
use Rattle.tabled_colorization.proofs.turns.texts_of.Given as goal

abbrev pub invariant-loop-color : goal.invariant-loop-color
invariant-loop-color l = l.texts.items ≡ map texts_of (take l.color-index l.colors)
