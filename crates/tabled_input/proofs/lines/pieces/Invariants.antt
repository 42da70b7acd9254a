-- The cells so far, and those that the rest is cut into.
use Rattle.std.proofs.Common.{◌≡◌, ◌==◌, ◌++◌, length, map}
use Rattle.std.specs.List.{slice_split}
use Rattle.std.specs.Str.{IsUtf8}
use Rattle.tabled_input.proofs.lines.pieces.Given as goal

abbrev pub invariant-loop-cell : goal.invariant-loop-cell
invariant-loop-cell l = record {
  cut : map (λ cell. cell.now) l.cells.items ++ slice_split (λ b. b == l.separator) l.rest ≡ slice_split (λ b. b == l.separator) l.line;
  utf8 : IsUtf8 l.rest;
}

abbrev pub decreases-loop-cell : goal.decreases-loop-cell
decreases-loop-cell l = length l.rest
