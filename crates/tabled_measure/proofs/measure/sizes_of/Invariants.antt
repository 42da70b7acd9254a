-- The widths that the rows so far ask for, and their heights.
use Rattle.std.proofs.Common.{◌≡◌, ℕ, ◌<◌, [], length, get_or, take}
use Rattle.std.specs.Str.{IsUtf8}
use Rattle.tabled_cells.specs.TextsBy.{texts_by}
use Rattle.tabled_measure.specs.Sizes.{cell, column_count, row_heights}
use Rattle.tabled_measure.proofs.Measuring.{widened}
use Rattle.tabled_measure.proofs.measure.sizes_of.Given as goal

abbrev pub invariant-loop-row : goal.invariant-loop-row
invariant-loop-row g l = record {
  count : length l.widths.items ≡ column_count (texts_by g.T.AsStr.text l.rows);
  widths : (col : ℕ) → col < length l.widths.items → get_or l.widths.items col 0 ≡ widened g.T.AsStr.text l.rows l.row-index col;
  heights : l.heights.items ≡ row_heights (texts_by g.T.AsStr.text (take l.row-index l.rows));
  utf8 : (r : ℕ) → r < l.row-index → (k : ℕ) → k < column_count (texts_by g.T.AsStr.text l.rows) → IsUtf8 (cell (get_or (texts_by g.T.AsStr.text l.rows) r []) k);
}
