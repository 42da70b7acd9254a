-- The characters so far.
use Rattle.std.proofs.Common.{◌≡◌, ◌++◌, string_bytes}
use Rattle.tabled_width.specs.Texts.{times}
use Rattle.tabled_width.proofs.repeat.push_each.Given as goal

abbrev pub invariant-loop : goal.invariant-loop
invariant-loop l = string_bytes l.text ≡ string_bytes l.initial.text ++ times l.counter l.character
