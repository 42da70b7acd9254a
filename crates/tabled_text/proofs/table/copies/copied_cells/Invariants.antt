-- The copies so far.
use Rattle.std.proofs.Common.{◌≡◌, take}
use Rattle.tabled_width.specs.Texts.{texts}
use Rattle.tabled_cells.specs.TextsBy.{texts_by}
use Rattle.tabled_text.proofs.table.copies.copied_cells.Given as goal

abbrev pub invariant-loop-row : goal.invariant-loop-row
invariant-loop-row g l = texts l.copies.items ≡ texts_by g.T.AsStr.text (take l.row-index l.rows)
