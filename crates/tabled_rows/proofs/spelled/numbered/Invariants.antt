-- The numbers so far are there.
use Rattle.std.proofs.Common.{◌≡◌, length, map, string_bytes}
use Rattle.tabled_rows.specs.Spelled.{AreSpelled, numbers}
use Rattle.tabled_rows.proofs.spelled.numbered.Given as goal

abbrev pub invariant-loop-number : goal.invariant-loop-number
invariant-loop-number l = record { count : length l.texts.items ≡ l.number-counter; texts : AreSpelled (numbers l.number-counter) (map string_bytes l.texts.items) }
