-- So many bytes are alike, and those after them are yet to be compared.
use Rattle.std.proofs.Common.{◌≡◌, ◌+◌, ◌-◌, ◌≤◌, drop, length}
use Rattle.tabled_request.specs.Options.{alike}
use Rattle.tabled_request.proofs.hints.alike.Given as goal

abbrev pub invariant-loop-at : goal.invariant-loop-at
invariant-loop-at l = record {
  first : l.at ≤ length l.a;
  second : l.at ≤ length l.b;
  alike : l.at + alike (drop l.at l.a) (drop l.at l.b) ≡ alike l.a l.b;
}

abbrev pub decreases-loop-at : goal.decreases-loop-at
decreases-loop-at l = length l.a - l.at
