-- The spans so far are set, and can be taken back.
use Rattle.std.proofs.Common.{◌≡◌, take}
use Rattle.tabled_layout.specs.Spans.{calls_for, spans_after}
use Rattle.tabled_layout.specs.TakenBack.{taken_back}
use Rattle.tabled_layout.proofs.spans.Spans.insert_each.Given as goal

abbrev pub invariant-loop-cell : goal.invariant-loop-cell
invariant-loop-cell l =
    (l.self ≡ spans_after l.initial.self (calls_for l.count (take l.cell-index l.cells)))
    × (taken_back l.self l.before.items ≡ taken_back l.initial.self l.initial.before.items)
