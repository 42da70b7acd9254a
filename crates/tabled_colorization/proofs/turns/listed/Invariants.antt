-- Those so far.
use Rattle.std.proofs.Common.{◌≡◌, take}
use Rattle.tabled_colorization.specs.Turns.{listing_in_turn}
use Rattle.tabled_colorization.proofs.turns.listed.Given as goal

abbrev pub invariant-loop-number : goal.invariant-loop-number
invariant-loop-number l = l.list.items ≡ listing_in_turn l.colors (take l.number l.entities)
