use Rattle.std.proofs.Common.{◌≡◌, take}
use Rattle.tabled_settings.specs.Kinds.{with_kinds}
use Rattle.tabled_settings.proofs.kinds.EntityKinds.mark_each.Given as goal

-- the kinds so far are marked
abbrev pub invariant-loop-entity : goal.invariant-loop-entity
invariant-loop-entity g l = l.self ≡ with_kinds l.initial.self (take l.entity-index l.events)
