-- What is written, and how many lines are left.
use Rattle.std.proofs.Common.{◌≡◌, ◌≤◌, ◌++◌, length, string_bytes}
use denote.Text.{Utf8}
use denote.Shadow.{shadow}
use Rattle.tabled_width.specs.CutOff.{shortened}
use Rattle.tabled_width.proofs.height.shortened.Given as goal

abbrev pub invariant-loop-line : goal.invariant-loop-line
invariant-loop-line l = record {
  text : shadow (Utf8 l.rest);
  some : 1 ≤ l.left;
  written : string_bytes l.out ++ shortened l.left l.suffix l.rest ≡ shortened l.count l.suffix l.text;
}

abbrev pub decreases-loop-line : goal.decreases-loop-line
decreases-loop-line l = length l.rest
