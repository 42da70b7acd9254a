-- The columns so far.
use Rattle.std.proofs.Common.{◌≡◌, ◌++◌, filter, map}
use Rattle.std.specs.List.{range_with_len}
use Rattle.tabled_request.specs.Columns.{has_heading}
use Rattle.tabled_request.proofs.columns.put_headed.Given as goal

abbrev pub invariant-loop-col : goal.invariant-loop-col
invariant-loop-col g l = l.columns.items ≡ l.fn.columns.items ++ filter (has_heading (map g.T.AsStr.text l.headings) l.text) (range_with_len 0 l.col)
