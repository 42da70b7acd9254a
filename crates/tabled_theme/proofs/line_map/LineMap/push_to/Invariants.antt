use Rattle.std.proofs.Common.{◌≡◌, ◌++◌}
use Rattle.tabled_theme.proofs.line_map.LineMap.push_to.Given as goal

-- what was added and what is left are the entries
abbrev pub invariant-loop-index : goal.invariant-loop-index
invariant-loop-index g l = l.list.items ++ l.index-iterator ≡ l.initial.list.items ++ l.initial.index-iterator
