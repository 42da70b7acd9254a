-- How many lines were passed, and how many of them are kept.
use Rattle.std.proofs.Common.{◌≡◌, ◌≤◌, ◌+◌, drop, length, take}
use denote.Text.{Utf8}
use denote.Shadow.{shadow}
use Rattle.tabled_width.specs.Texts.{pieces}
use Rattle.tabled_cells.specs.Trimmed.{is_blank, without_last}
use Rattle.tabled_cells.proofs.trim.count_to_last.Given as goal

abbrev pub invariant-loop-line : goal.invariant-loop-line
invariant-loop-line l = record {
  text : shadow (Utf8 l.rest);
  left : pieces l.rest ≡ drop l.passed (pieces l.text);
  kept : take l.count (pieces l.text) ≡ without_last is_blank (take l.passed (pieces l.text));
  within : l.count ≤ l.passed;
  few : l.passed + length l.rest ≤ length l.text;
}

abbrev pub decreases-loop-line : goal.decreases-loop-line
decreases-loop-line l = length l.rest
