-- The rows that were passed are full, and the others are as they were.
use Rattle.std.proofs.Common.{◌≡◌, ℕ, ◌<◌, ◌≤◌, [], get_or, String, Global}
use Rattle.std.specs.declared.vec.Vec.{Vec}
use Rattle.tabled_rows.specs.Rows.{filled_to, row_texts}
use Rattle.tabled_rows.proofs.columns.fill_rows.Given as goal

abbrev pub invariant-loop-row : goal.invariant-loop-row
invariant-loop-row l = record {
  done : (n : ℕ) → n < l.row-index → get_or (row_texts l.rows) n [] ≡ filled_to l.width (get_or (row_texts l.initial.rows) n []);
  left : (n : ℕ) (none : Vec (String Global) Global) → l.row-index ≤ n → get_or l.rows n none ≡ get_or l.initial.rows n none;
}
