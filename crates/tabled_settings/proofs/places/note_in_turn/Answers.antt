use Rattle.std.proofs.Common.{arith}
use Rattle.tabled_settings.proofs.InARow.{one_noted}
use Rattle.tabled_settings.proofs.places.note_in_turn.Goals as goal

pub loop-at-preserved : goal.loop-at-preserved
loop-at-preserved g c = (
  omega arith,
  omega arith,
  λ slots once has end. one_noted slots c.args.events.now c.loop-at.at c.args.first c.index-events-at.result c.loop-at.places c.insert.new.self c.loop-at.before.items c.push_reserved.new.self.items c.in-Ok.place
      c.loop-at-test.true c.index-events-at.is c.in-Ok.ensures.old c.in-Ok.ensures.updates c.push_reserved.ensures.items once end (c.loop-at.invariant.2 slots once has end),
)
