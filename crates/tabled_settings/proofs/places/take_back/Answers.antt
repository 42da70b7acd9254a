use Rattle.std.proofs.Common.{◌-◌, ◌≡◌, ap, length, subst, take, arith}
use Rattle.tabled_settings.specs.Slots.{HasPlaces, after_puts}
use Rattle.tabled_settings.proofs.InARow.{one_back}
use Rattle.tabled_settings.proofs.places.take_back.Goals as goal

pub loop-left-preserved : goal.loop-left-preserved
loop-left-preserved g c = (
  omega arith,
  λ slots once was has. one_back slots c.args.events.now c.args.before.now (c.loop-left.left - 1) c.index-events-left.result _ c.loop-left.places c.set_back.new.places (omega arith) c.requires c.index-events-left.is c.set_back.ensures once was
      (subst (λ n. HasPlaces c.loop-left.places (after_puts slots (take n c.args.events.now))) (omega arith) (c.loop-left.invariant.1 slots once was has)),
  λ nothing empty. absurd (let none : length c.args.before.now ≡ 0 = ap length nothing in omega arith),
)
