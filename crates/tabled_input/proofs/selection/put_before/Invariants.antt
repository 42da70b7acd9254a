-- The rows that were passed have their texts.
use Rattle.std.proofs.Common.{◌≡◌, map, string_bytes}
use Rattle.tabled_input.specs.Lines.{cells_of}
use Rattle.tabled_input.proofs.Numbering.{before_to}
use Rattle.tabled_input.proofs.selection.put_before.Given as goal

abbrev pub invariant-loop-at : goal.invariant-loop-at
invariant-loop-at l = cells_of l.rows ≡ before_to l.at (map string_bytes l.texts) (cells_of l.initial.rows)
