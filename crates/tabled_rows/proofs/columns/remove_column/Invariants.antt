-- The rows that were passed have a text less, and the others are as they were.
use Rattle.std.proofs.Common.{◌≡◌, ℕ, ◌<◌, ◌≤◌, [], get_or}
use Rattle.std.specs.List.{remove}
use Rattle.tabled_rows.specs.Rows.{row_texts}
use Rattle.tabled_rows.proofs.columns.remove_column.Given as goal

abbrev pub invariant-loop-row : goal.invariant-loop-row
invariant-loop-row l = record {
  done : (n : ℕ) → n < l.row-index → get_or (row_texts l.rows) n [] ≡ remove (get_or (row_texts l.initial.rows) n []) l.index;
  left : (n : ℕ) → l.row-index ≤ n → get_or (row_texts l.rows) n [] ≡ get_or (row_texts l.initial.rows) n [];
}
