-- What is left has the rest of the bytes.
use Rattle.std.proofs.Common.{◌≡◌, ◌+◌, drop}
use Rattle.tabled_input.specs.Spaced.{wide_len}
use Rattle.tabled_input.proofs.wide.wide_len.Given as goal

abbrev pub invariant-loop-at : goal.invariant-loop-at
invariant-loop-at l = l.at + wide_len (drop l.at l.line) ≡ wide_len l.line
