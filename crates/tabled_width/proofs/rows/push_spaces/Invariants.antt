-- The spaces so far.
use Rattle.std.proofs.Common.{◌≡◌, ◌++◌, replicate, string_bytes}
use Rattle.tabled_width.proofs.rows.push_spaces.Given as goal

abbrev pub invariant-loop : goal.invariant-loop
invariant-loop l = string_bytes l.row ≡ string_bytes l.initial.row ++ replicate l.counter 32
