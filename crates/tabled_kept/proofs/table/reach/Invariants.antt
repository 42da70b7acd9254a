use Rattle.std.proofs.Common.{◌≡◌, ◌≤◌, ◌+◌, ◌-◌, vec_len}
use Rattle.tabled_kept.specs.Slots.{in_rows}
use Rattle.tabled_kept.proofs.table.reach.Given as goal

abbrev pub invariant-loop-alloc : goal.invariant-loop-alloc
invariant-loop-alloc g l = (in_rows l.rows.items ≡ in_rows l.initial.rows.items) × (vec_len l.initial.rows ≤ vec_len l.rows)

abbrev pub decreases-loop-alloc : goal.decreases-loop-alloc
decreases-loop-alloc g l = l.at + 1 - vec_len l.rows
