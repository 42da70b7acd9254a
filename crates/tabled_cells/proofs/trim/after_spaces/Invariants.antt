-- What is left of the line, which is shown as the line is.
use Rattle.std.proofs.Common.{◌≡◌, length}
use denote.Text.{Utf8}
use denote.Shadow.{shadow}
use Rattle.tabled_cells.specs.Trimmed.{without_first, is_space}
use Rattle.tabled_cells.proofs.trim.after_spaces.Given as goal

abbrev pub invariant-loop-more : goal.invariant-loop-more
invariant-loop-more l = record {
  text : shadow (Utf8 l.rest);
  shown : without_first is_space l.rest ≡ without_first is_space l.line;
}

abbrev pub decreases-loop-more : goal.decreases-loop-more
decreases-loop-more l = length l.rest
