-- The place after the bytes so far.
use Rattle.std.proofs.Common.{◌≡◌, ◌+◌, ◌≤◌, take}
use Rattle.tabled_input.specs.Input.{byte_after, line_after}
use Rattle.tabled_input.proofs.place.place_after.Given as goal

abbrev pub invariant-loop-each : goal.invariant-loop-each
invariant-loop-each l = record {
  line : l.line ≡ line_after (take l.each-index l.bytes);
  byte : l.byte ≡ byte_after (take l.each-index l.bytes);
  line_most : l.line ≤ l.each-index + 1;
  byte_most : l.byte ≤ l.each-index + 1;
}
