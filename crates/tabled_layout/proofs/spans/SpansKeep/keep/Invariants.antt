use Rattle.std.proofs.Common.{◌≡◌, ◌++◌}
use Rattle.tabled_layout.proofs.spans.SpansKeep.keep.Given as goal

-- what is copied and what is left are the entries
abbrev pub invariant-loop-position : goal.invariant-loop-position
invariant-loop-position l = l.spans.entries ++ l.position-iterator ≡ l.initial.position-iterator
