-- What is left is whole where the text is.
use Rattle.std.proofs.Common.{◌≡◌, length}
use Rattle.tabled_numbers.specs.Numbers.{is_whole}
use Rattle.tabled_numbers.proofs.numbers.is_whole.Given as goal

abbrev pub invariant-loop-mark : goal.invariant-loop-mark
invariant-loop-mark l = is_whole l.rest ≡ is_whole l.text

abbrev pub decreases-loop-mark : goal.decreases-loop-mark
decreases-loop-mark l = length l.rest
