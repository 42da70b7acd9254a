use Rattle.std.proofs.Common.{◌≡◌, ℕ, ◌<◌, true}
use Rattle.std.specs.Option.{option_eq}
use Rattle.std.specs.FinMap as map
use Rattle.tabled_keys.specs.Slots.{slot}
use Rattle.tabled_kept.proofs.table.Table.is_same.Given as goal

-- the rows so far keep the same
abbrev pub invariant-loop-row : goal.invariant-loop-row
invariant-loop-row g l = (k col : ℕ) → k < l.row → option_eq g.V.PartialEq.eq (map.get l.self (slot k col)) (map.get l.other (slot k col)) ≡ true
