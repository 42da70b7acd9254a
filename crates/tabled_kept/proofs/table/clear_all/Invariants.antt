use Rattle.std.proofs.Common.{◌≡◌, ℕ, ◌<◌, vec_len, slice_index_or}
use Rattle.std.specs.FinMap as map
use Rattle.tabled_kept.proofs.table.clear_all.Given as goal

-- the rows so far are empty
abbrev pub invariant-loop-row : goal.invariant-loop-row
invariant-loop-row g l = ((k : ℕ) → k < l.row → slice_index_or l.rows.items k map.empty ≡ map.empty) × (vec_len l.rows ≡ vec_len l.initial.rows)
