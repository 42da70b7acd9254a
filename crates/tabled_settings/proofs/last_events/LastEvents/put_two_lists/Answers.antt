use Rattle.tabled_settings.proofs.Marking.{marked_alike}
use Rattle.tabled_settings.proofs.last_events.LastEvents.put_two_lists.Goals as goal

pub invariant_of-self-in-Err : goal.invariant_of-self-in-Err
invariant_of-self-in-Err g c = (
  c.take_back.ensures c.new.new.slots.items c.in_ok-noted.ensures.noted,
  marked_alike c.self.inside.kinds c.self.inside.slots.items c.new.new.slots.items c.in_ok-noted.ensures.same c.self.invariant.1,
)

pub write-requires-clause-marked : goal.write-requires-clause-marked
write-requires-clause-marked g c = marked_alike c.self.inside.kinds c.self.inside.slots.items c.new.new.slots.items c.in_ok-noted.ensures.same c.self.invariant.1
