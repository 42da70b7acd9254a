-- Filled so far, and there is room for the rest.
use Rattle.std.proofs.Common.{◌≡◌, ◌+◌, ◌≤◌, [], ◌++◌, map, replicate, string_bytes, vec_len, vec_capacity}
use Rattle.tabled_rows.proofs.columns.fill.Given as goal

abbrev pub invariant-loop : goal.invariant-loop
invariant-loop l = record {
  texts : map string_bytes l.row.items ≡ map string_bytes l.initial.row.items ++ replicate l.counter [];
  length : vec_len l.row ≡ vec_len l.initial.row + l.counter;
  capacity : vec_capacity l.initial.row ≤ vec_capacity l.row;
}
