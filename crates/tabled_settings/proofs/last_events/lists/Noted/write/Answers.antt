use Rattle.std.proofs.Common.{sym, subst, ◌∙◌}
use Rattle.tabled_settings.specs.Setting.{same_entity}
use Rattle.tabled_settings.specs.Slots.{standing, IsOnce}
use Rattle.tabled_settings.proofs.InOrder.{written}
use Rattle.tabled_settings.proofs.Marking.{marked-puts}
use Rattle.tabled_settings.proofs.last_events.lists.Noted.write.Goals as goal

pub close_up-requires : goal.close_up-requires
close_up-requires g c =
    let now = written c.args.slots.now.items c.replace_by.new.slots.items c.args.self.events.items c.args.self.before.items c.deref-2.result.now c.args.places.now c.requires.noted c.deref-2.ensures.value c.replace_by.ensures in
    record { once = now.0.0; placed = now.0.1 }

pub returns : goal.returns
returns g c =
    let now = written c.args.slots.now.items c.replace_by.new.slots.items c.args.self.events.items c.args.self.before.items c.deref-2.result.now c.args.places.now c.requires.noted c.deref-2.ensures.value c.replace_by.ensures in
    record {
      put = c.close_up.ensures.events ∙ now.1;
      held = (subst (IsOnce same_entity) (sym c.close_up.ensures.events) now.0.0, c.close_up.ensures.placed, c.close_up.ensures.few_holes);
      marked = marked-puts c.args.kinds.now c.mark_each.new.self (standing c.args.slots.now.items) (standing c.close_up.new.slots.items) c.args.self.events.items c.deref.result.now c.requires.marked c.mark_each.ensures c.deref.ensures.value (c.close_up.ensures.events ∙ now.1);
    }
