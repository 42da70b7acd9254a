-- The numbers so far.
use Rattle.std.proofs.Common.{◌≡◌, map, string_bytes, take}
use Rattle.std.specs.List.{range_with_len}
use Rattle.tabled_input.specs.Selection.{number_text}
use Rattle.tabled_input.proofs.selection.row_numbers.Given as goal

abbrev pub invariant-loop-row : goal.invariant-loop-row
invariant-loop-row l = map string_bytes l.numbers.items ≡ take l.row (map number_text (range_with_len l.first l.rows))
