-- The flags of the columns so far.
use Rattle.std.proofs.Common.{◌≡◌, ℕ, ◌<◌, false, ◌||◌, get_or, length, take}
use Rattle.tabled_request.specs.Columns.{is_one}
use Rattle.tabled_request.proofs.columns.set_flags.Given as goal

abbrev pub invariant-loop-col : goal.invariant-loop-col
invariant-loop-col l = (col : ℕ) → col < length l.flags → get_or l.flags col false ≡ (get_or l.fn.flags col false || is_one (take l.col-index l.columns) col)
