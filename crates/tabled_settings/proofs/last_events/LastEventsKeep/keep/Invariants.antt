use Rattle.std.proofs.Common.{◌≡◌, take}
use Rattle.tabled_settings.specs.Slots.{standing}
use Rattle.tabled_settings.proofs.last_events.LastEventsKeep.keep.Given as goal

-- the events so far are copied
abbrev pub invariant-loop-slot : goal.invariant-loop-slot
invariant-loop-slot g l = l.copy ≡ standing (take l.slot-index l.slot-items)
