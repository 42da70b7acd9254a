-- The columns so far.
use Rattle.std.proofs.Common.{◌≡◌, ◌-◌, ◌≤◌, max, ◌++◌}
use Rattle.std.specs.List.{range_with_len}
use Rattle.tabled_request.proofs.columns.put_range.Given as goal

abbrev pub invariant-loop-col : goal.invariant-loop-col
invariant-loop-col l = record {
  items : l.columns.items ≡ l.fn.columns.items ++ range_with_len l.from (l.col - l.from);
  within : l.col ≤ max l.from l.to;
}
