-- The rows so far, with those that are left, are all of them.
use Rattle.std.proofs.Common.{◌≡◌, ◌++◌, length}
use denote.Text.{Utf8}
use denote.Shadow.{shadow}
use Rattle.tabled_text.specs.TextTable.{lent_texts}
use Rattle.tabled_pages.specs.Input.{rows_of}
use Rattle.tabled_pages.proofs.rows.rows_of.Given as goal

abbrev pub invariant-loop-line : goal.invariant-loop-line
invariant-loop-line l = shadow (Utf8 l.rest) × (lent_texts l.rows.items ++ rows_of l.rest ≡ rows_of l.input)

abbrev pub decreases-loop-line : goal.decreases-loop-line
decreases-loop-line l = length l.rest
