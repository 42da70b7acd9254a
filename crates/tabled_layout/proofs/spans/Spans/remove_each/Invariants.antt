-- The spans so far are removed.
use Rattle.std.proofs.Common.{◌≡◌, ◌<◌, ℕ, take}
use Rattle.tabled_layout.specs.Spans.{calls_for, spans_after}
use Rattle.tabled_layout.proofs.spans.Spans.remove_each.Given as goal

abbrev pub invariant-loop-cell : goal.invariant-loop-cell
invariant-loop-cell l = (count : ℕ) → count < 2 → l.self ≡ spans_after l.initial.self (calls_for count (take l.cell-index l.cells))
