-- The rows that were passed have their text, and the others are as they were.
use Rattle.std.proofs.Common.{◌≡◌, ℕ, ◌<◌, ◌≤◌, [], map, drop, get_or, string_bytes, String, Global}
use Rattle.std.specs.declared.vec.Vec.{Vec}
use Rattle.std.specs.List.{insert}
use Rattle.std.specs.Vec.Iter.{into_iter_items}
use Rattle.tabled_rows.specs.Rows.{filled_to, row_texts}
use Rattle.tabled_rows.proofs.columns.put_column.Given as goal

abbrev pub invariant-loop-row : goal.invariant-loop-row
invariant-loop-row l = record {
  done : (n : ℕ) → n < l.row-index → get_or (row_texts l.rows) n [] ≡ insert (filled_to l.width (get_or (row_texts l.initial.rows) n [])) l.index (get_or (map string_bytes l.fn.column.items) n []);
  left : (n : ℕ) (none : Vec (String Global) Global) → l.row-index ≤ n → get_or l.rows n none ≡ get_or l.initial.rows n none;
  rest : into_iter_items l.texts ≡ drop l.row-index l.fn.column.items;
}
