-- The rows so far.
use Rattle.std.proofs.Common.{◌≡◌, take}
use Rattle.tabled_text.specs.TextTable.{lent_rows, lent_texts}
use Rattle.tabled_text.proofs.lent_table.held.Given as goal

abbrev pub invariant-loop-row : goal.invariant-loop-row
invariant-loop-row l = lent_texts l.found.items ≡ lent_rows (take l.row-index l.rows)
