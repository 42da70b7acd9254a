-- Each word so far is short.
use Rattle.std.proofs.Common.{◌≤◌, length, string_bytes}
use Rattle.std.specs.List.{All}
use Rattle.tabled_pages.proofs.words.all_words.Given as goal

abbrev pub invariant-loop-place : goal.invariant-loop-place
invariant-loop-place g l = All (λ word. length (string_bytes word) ≤ 64) l.words.items
