-- Filled so far.
use Rattle.std.proofs.Common.{◌≡◌, ◌++◌, [], replicate}
use Rattle.tabled_printing.specs.Pieces.{lent}
use Rattle.tabled_viewing.proofs.rows.fill_row.Given as goal

abbrev pub invariant-loop : goal.invariant-loop
invariant-loop l = lent l.row.items ≡ lent l.initial.row.items ++ replicate l.counter []
