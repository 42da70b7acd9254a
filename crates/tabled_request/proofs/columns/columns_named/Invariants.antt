-- The columns of the parts so far.
use Rattle.std.proofs.Common.{◌≡◌, map}
use Rattle.std.specs.List.{flat_map}
use Rattle.tabled_request.specs.Columns.{columns_of_part}
use Rattle.tabled_request.proofs.columns.columns_named.Given as goal

abbrev pub invariant-loop-part : goal.invariant-loop-part
invariant-loop-part g l = l.columns.items ≡ flat_map (columns_of_part (map g.T.AsStr.text l.headings) l.count) (map (λ part. part.now) l.yielded)
