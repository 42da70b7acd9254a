-- The rows so far, and those of the counts that are left.
use Rattle.std.proofs.Common.{◌≡◌, ◌++◌, ◌≤◌, drop, length}
use Rattle.std.specs.Str.{IsUtf8}
use Rattle.tabled_input.specs.Joined.{AreTexts, parts, total}
use Rattle.tabled_input.specs.Lines.{cells_of}
use Rattle.tabled_input.proofs.joined.rows_of.Given as goal

abbrev pub invariant-loop-count : goal.invariant-loop-count
invariant-loop-count l = record {
  utf8 : IsUtf8 l.rest;
  cut : cells_of l.rows.items ++ parts (drop l.count-index l.counts) (parts l.left l.rest) ≡ parts l.counts (parts l.lengths l.text);
  texts : AreTexts l.left l.rest;
  within : total (drop l.count-index l.counts) ≤ length l.left;
}
