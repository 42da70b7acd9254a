-- Each word so far is short.
use Rattle.std.proofs.Common.{◌≤◌, length, string_bytes}
use Rattle.std.specs.List.{All}
use Rattle.tabled_request.specs.declared.given.TheConstants.{WORD_LIMIT}
use Rattle.tabled_request.proofs.given.all_words.Given as goal

abbrev pub invariant-loop-place : goal.invariant-loop-place
invariant-loop-place g l = All (λ text. length (string_bytes text) ≤ WORD_LIMIT) l.words.items
