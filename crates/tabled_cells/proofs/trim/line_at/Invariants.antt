-- What is left of the text, after so many of its lines.
use Rattle.std.proofs.Common.{◌≡◌, drop}
use denote.Text.{Utf8}
use denote.Shadow.{shadow}
use Rattle.tabled_width.specs.Texts.{pieces}
use Rattle.tabled_cells.specs.Trimmed.{pieces_left}
use Rattle.tabled_cells.proofs.trim.line_at.Given as goal

abbrev pub invariant-loop-passed : goal.invariant-loop-passed
invariant-loop-passed l = record {
  text : shadow (Utf8 l.rest);
  left : pieces l.rest ≡ drop l.passed (pieces_left l.text);
}
