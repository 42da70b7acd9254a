use Rattle.std.proofs.Common.{◌≡◌, ◌++◌, nat_cmp}
use Rattle.std.specs.FinMap as map
use Rattle.tabled_kept.specs.Table.{table}
use Rattle.tabled_kept.proofs.numbered.CountedMap+usize+V.copy.Given as goal

-- what is copied and what is left are the entries
abbrev pub invariant-loop-number : goal.invariant-loop-number
invariant-loop-number g l = l.copies.items ++ l.number-iterator ≡ map.entries (table nat_cmp l.self)
