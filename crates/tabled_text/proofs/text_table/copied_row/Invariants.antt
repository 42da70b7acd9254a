-- The texts so far.
use Rattle.std.proofs.Common.{◌≡◌, map, take, string_bytes}
use Rattle.tabled_text.proofs.text_table.copied_row.Given as goal

abbrev pub invariant-loop-text : goal.invariant-loop-text
invariant-loop-text g l = map string_bytes l.copies.items ≡ map g.T.AsStr.text (take l.text-index l.row)
