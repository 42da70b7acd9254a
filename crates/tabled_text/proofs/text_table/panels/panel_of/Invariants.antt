-- The text, and the empty ones so far.
use Rattle.std.proofs.Common.{◌≡◌, ◌∷◌, [], map, replicate, string_bytes}
use Rattle.tabled_text.proofs.text_table.panels.panel_of.Given as goal

abbrev pub invariant-loop : goal.invariant-loop
invariant-loop l = map string_bytes l.row.items ≡ l.text ∷ replicate l.counter []
