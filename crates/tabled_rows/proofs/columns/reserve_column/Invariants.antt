-- No text is changed, and the rows that were passed have room.
use Rattle.std.proofs.Common.{◌≡◌, ℕ, ◌<◌, max, get_or, vec_len, vec_capacity, String, Global}
use Rattle.std.specs.declared.vec.Vec.{Vec}
use Rattle.tabled_rows.specs.Rows.{row_texts}
use Rattle.tabled_rows.proofs.columns.reserve_column.Given as goal

abbrev pub invariant-loop-row : goal.invariant-loop-row
invariant-loop-row l = record {
  texts : row_texts l.rows ≡ row_texts l.initial.rows;
  room : (n : ℕ) (none : Vec (String Global) Global) → n < l.row-index → max l.width (vec_len (get_or l.rows n none)) < vec_capacity (get_or l.rows n none);
}
