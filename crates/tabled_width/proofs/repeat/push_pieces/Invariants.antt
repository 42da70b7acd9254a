-- The characters so far, of which some are left.
use Rattle.std.proofs.Common.{◌≡◌, ◌++◌, ◌-◌, ◌≤◌, string_bytes}
use Rattle.tabled_width.specs.Texts.{times}
use Rattle.tabled_width.proofs.repeat.push_pieces.Given as goal

abbrev pub invariant-loop-left : goal.invariant-loop-left
invariant-loop-left l = (string_bytes l.text ≡ string_bytes l.initial.text ++ times (l.count - l.left) l.character) × (l.left ≤ l.count)

abbrev pub decreases-loop-left : goal.decreases-loop-left
decreases-loop-left l = l.left
