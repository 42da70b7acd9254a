use Rattle.std.proofs.Common.{◌≡◌, ℕ, ◌<◌, true}
use Rattle.std.specs.Option.{option_eq}
use Rattle.std.specs.FinMap as map
use Rattle.tabled_kept.proofs.slots.Slots.is_same.Given as goal

-- the slots so far have the same
abbrev pub invariant-loop-at : goal.invariant-loop-at
invariant-loop-at g l = (k : ℕ) → k < l.at → option_eq g.V.PartialEq.eq (map.get l.self k) (map.get l.other k) ≡ true
