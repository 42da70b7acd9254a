use Rattle.std.proofs.Common.{◌≡◌, ◌++◌}
use Rattle.tabled_theme.proofs.line_map.LineMapKeep.keep.Given as goal

-- what is copied and what is left are the entries
abbrev pub invariant-loop-index : goal.invariant-loop-index
invariant-loop-index g l = l.lines.entries ++ l.index-iterator ≡ l.initial.index-iterator
