use Rattle.tabled_settings.proofs.InOrder.{given_back}
use Rattle.tabled_settings.proofs.last_events.lists.Noted.take_back.Goals as goal

pub returns : goal.returns
returns g c slots noted =
    given_back slots c.args.self.now.events.items c.deref.result.now c.args.self.now.before.items c.deref-2.result.now c.args.places.now c.take_back.new.places
    c.deref.ensures.value c.deref-2.ensures.value c.take_back.ensures.placed c.take_back.ensures.nothing noted
