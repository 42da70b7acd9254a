-- The number that the digits so far write.
use Rattle.std.proofs.Common.{◌≡◌, ◌≤◌, take}
use Rattle.tabled_request.specs.Numerals.{value_of}
use Rattle.tabled_request.specs.declared.numerals.TheConstants.{MOST}
use Rattle.tabled_request.proofs.numerals.value_of.Given as goal

abbrev pub invariant-loop-byte : goal.invariant-loop-byte
invariant-loop-byte l = record {
  value : l.value ≡ value_of (take l.byte-index l.digits);
  at_most : l.value ≤ MOST;
}
