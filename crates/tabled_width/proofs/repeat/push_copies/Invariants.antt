-- The characters since the first ones, which were written one by one.
use Rattle.std.proofs.Common.{◌≡◌, ◌++◌, ◌-◌, ◌<◌, ◌≤◌, string_bytes}
use Rattle.tabled_width.specs.Texts.{times}
use Rattle.tabled_width.proofs.repeat.push_copies.Given as goal

abbrev pub invariant-loop-written : goal.invariant-loop-written
invariant-loop-written l =
    (string_bytes l.text ≡ string_bytes l.initial.text ++ times (l.written - l.initial.written) l.character)
    × (l.initial.written ≤ l.written) × (l.written ≤ l.count) × (0 < l.count → 0 < l.initial.written)

abbrev pub decreases-loop-written : goal.decreases-loop-written
decreases-loop-written l = l.count - l.written
