-- The texts so far.
use Rattle.std.proofs.Common.{◌≡◌, map, take, string_bytes}
use Rattle.tabled_printing.specs.Pieces.{lent}
use Rattle.tabled_config.proofs.print.whole_texts.Given as goal

abbrev pub invariant-loop-cell : goal.invariant-loop-cell
invariant-loop-cell l = lent l.rests.items ≡ map string_bytes (take l.cell-index l.cells)
