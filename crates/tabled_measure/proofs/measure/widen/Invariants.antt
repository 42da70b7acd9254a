-- The columns that were passed are wide enough, and the others are as they were; where those that were passed are known to be printable, they are.
use Rattle.std.proofs.Common.{◌≡◌, ℕ, ◌<◌, ◌≤◌, true, max, map, length, get_or}
use Rattle.std.specs.List.{list_all}
use Rattle.std.specs.Str.{IsUtf8}
use Rattle.tabled_width.specs.Texts.{is_printable}
use Rattle.tabled_measure.specs.Sizes.{cell, width_asked}
use Rattle.tabled_measure.proofs.measure.widen.Given as goal

abbrev pub invariant-loop-col : goal.invariant-loop-col
invariant-loop-col g l = record {
  done : (k : ℕ) → k < l.col → get_or l.widths k 0 ≡ max (get_or l.initial.widths k 0) (width_asked (cell (map g.T.AsStr.text l.row) k));
  left : (k : ℕ) → l.col ≤ k → get_or l.widths k 0 ≡ get_or l.initial.widths k 0;
  fits : l.are_printable ≡ true → length l.row ≤ length l.initial.widths;
  utf8 : (k : ℕ) → k < l.col → IsUtf8 (cell (map g.T.AsStr.text l.row) k);
  printable : l.are_printable ≡ true → (k : ℕ) → k < l.col → list_all is_printable (cell (map g.T.AsStr.text l.row) k) ≡ true;
}
