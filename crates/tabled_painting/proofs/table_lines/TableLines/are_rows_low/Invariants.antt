-- The rows so far.
use Rattle.std.proofs.Common.{◌≡◌, ◌<◌, ℕ}
use Rattle.std.specs.Prelude.{slice_index}
use Rattle.tabled_painting.proofs.table_lines.TableLines.are_rows_low.Given as goal

abbrev pub invariant-loop-row : goal.invariant-loop-row
invariant-loop-row l = (r : ℕ) → r < l.row → slice_index l.self.frame.dims.now.heights.items r ≡ 1
