-- The rows that were passed have a text less, which the column has; the others are as they were, and there is room for their texts.
use Rattle.std.proofs.Common.{◌≡◌, ℕ, ◌<◌, ◌≤◌, [], map, take, length, get_or, string_bytes, vec_len, vec_capacity}
use Rattle.std.specs.List.{remove}
use Rattle.tabled_width.specs.Texts.{texts}
use Rattle.tabled_measure.specs.Sizes.{cell}
use Rattle.tabled_measure.proofs.edited.take_column.Given as goal

abbrev pub invariant-loop-row : goal.invariant-loop-row
invariant-loop-row l = record {
  done : (n : ℕ) → n < l.row-index → get_or (texts l.rows) n [] ≡ remove (get_or (texts l.initial.rows) n []) l.index;
  left : (n : ℕ) → l.row-index ≤ n → get_or (texts l.rows) n [] ≡ get_or (texts l.initial.rows) n [];
  taken : map string_bytes l.column.items ≡ take l.row-index (map (λ row. cell row l.index) (texts l.initial.rows));
  count : vec_len l.column ≡ l.row-index;
  room : length l.initial.rows ≤ vec_capacity l.column;
}
