-- The rows so far.
use Rattle.std.proofs.Common.{◌≡◌, take}
use Rattle.tabled_width.specs.Texts.{texts}
use Rattle.tabled_text.specs.TextTable.{lent_rows}
use Rattle.tabled_text.proofs.text_table.copied.Given as goal

abbrev pub invariant-loop-row : goal.invariant-loop-row
invariant-loop-row l = texts l.copies.items ≡ lent_rows (take l.row-index l.rows)
