-- What is left of the text begins as the text does, but for blank lines.
use Rattle.std.proofs.Common.{◌≡◌, length}
use denote.Text.{Utf8}
use denote.Shadow.{shadow}
use Rattle.tabled_width.specs.Texts.{pieces}
use Rattle.tabled_cells.specs.Trimmed.{without_first, is_blank}
use Rattle.tabled_cells.proofs.trim.from_first.Given as goal

abbrev pub invariant-loop-line : goal.invariant-loop-line
invariant-loop-line l = record {
  text : shadow (Utf8 l.rest);
  same : without_first is_blank (pieces l.rest) ≡ without_first is_blank (pieces l.text);
}

abbrev pub decreases-loop-line : goal.decreases-loop-line
decreases-loop-line l = length l.rest
