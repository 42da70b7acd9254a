-- What is left of the line, which is shown as the line is.
use Rattle.std.proofs.Common.{◌≡◌, length, reverse}
use denote.Text.{Utf8}
use denote.Shadow.{shadow}
use Rattle.tabled_cells.specs.Trimmed.{without_first, is_space}
use Rattle.tabled_cells.proofs.trim.before_spaces.Given as goal

abbrev pub invariant-loop-less : goal.invariant-loop-less
invariant-loop-less l = record {
  text : shadow (Utf8 l.rest);
  shown : without_first is_space (reverse l.rest) ≡ without_first is_space (reverse l.line);
}

abbrev pub decreases-loop-less : goal.decreases-loop-less
decreases-loop-less l = length l.rest
