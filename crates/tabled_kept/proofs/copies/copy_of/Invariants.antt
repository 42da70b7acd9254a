use Rattle.std.proofs.Common.{◌≡◌, ◌++◌}
use Rattle.tabled_kept.proofs.copies.copy_of.Given as goal

-- what is copied and what is left are the entries
abbrev pub invariant-loop-key : goal.invariant-loop-key
invariant-loop-key g l = l.copies.items ++ l.key-iterator ≡ l.entries.entries
