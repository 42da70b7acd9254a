-- The rows that were passed are filled.
use Rattle.std.proofs.Common.{◌≡◌}
use Rattle.tabled_rows.specs.Rows.{filled_to}
use Rattle.tabled_text.specs.TextTable.{lent_texts}
use Rattle.tabled_viewing.proofs.Mapped.{mapped_to}
use Rattle.tabled_viewing.proofs.rows.fill_rows.Given as goal

abbrev pub invariant-loop-row : goal.invariant-loop-row
invariant-loop-row l = lent_texts l.rows ≡ mapped_to (filled_to l.width) l.row-index (lent_texts l.initial.rows)
