-- What is written so far, and what the rest will give.
use Rattle.std.proofs.Common.{◌≡◌, ◌++◌, ℕ, List, false, string_bytes}
use Rattle.tabled_clean.specs.Steering.{going_on}
use Rattle.tabled_clean.proofs.cleaning.written.Given as goal

abbrev pub invariant-loop-character : goal.invariant-loop-character
invariant-loop-character l = (more : List ℕ) → going_on (string_bytes l.clean) l.is_held more ≡ going_on (string_bytes l.initial.clean) false (l.yielded ++ more)
