use Rattle.std.proofs.Common.{arith}
use Rattle.tabled_settings.proofs.InOrder.{all_noted}
use Rattle.tabled_settings.proofs.last_events.lists.Noted.new.Goals as goal

pub invariant_of-result : goal.invariant_of-result
invariant_of-result g c =
    let many = all_noted c.deref.result.now c.args.events.items c.deref-2.result.now c.in_ok-before.before.items c.note_list.new.places c.deref-2.ensures.value c.in_ok-before.ensures.ok in
    record { as_many = omega (arith, many, c.in_ok-before.before.ok.0, c.args.events.ok.0) }
