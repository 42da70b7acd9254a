use Rattle.std.proofs.Common.{ap, sym, subst, ◌∙◌, [], ◌∷◌, ◌++◌}
use Rattle.tabled_settings.specs.Setting.{same_entity}
use Rattle.tabled_settings.specs.Live.{without}
use Rattle.tabled_settings.specs.Slots.{standing, place, IsOnce, HasFewHoles, IsPlaced, after_put}
use Rattle.tabled_settings.proofs.InOrder.{back_again}
use Rattle.tabled_settings.proofs.Lasting.{slots_after, standing-put, once-put}
use Rattle.tabled_settings.proofs.Marking.{marked-put, marked_alike}
use Rattle.tabled_settings.proofs.last_events.LastEvents.put_both.Goals as goal

pub invariant_of-self-in-Err : goal.invariant_of-self-in-Err
invariant_of-self-in-Err g c =
    let slots = c.deref.result.now in
    let same = c.deref.ensures.value ∙ c.reserve.ensures.items in
    let once = subst (λ items. IsOnce same_entity (standing items)) (sym same) c.self.invariant.0.0 in
    let few = subst HasFewHoles (sym same) c.self.invariant.0.2 in (
      (
        subst (λ items. IsOnce same_entity (standing items)) c.deref.ensures.value once,
        subst (IsPlaced c.set_back.new.places) c.deref.ensures.value
            (back_again slots (c.args.entity, c.args.value) c.note_next.new.places c.set_back.new.places c.in_ok-before.before once few
            c.in_ok-before.ensures.before c.in_ok-before.ensures.in_order (c.in_ok-before.ensures.ok c.args.value) c.set_back.ensures),
        subst HasFewHoles c.deref.ensures.value few,
      ),
      marked_alike c.self.inside.kinds c.self.inside.slots.items c.reserve.new.self.items c.reserve.ensures.items c.self.invariant.1,
    )

pub close_up-requires : goal.close_up-requires
close_up-requires g c =
    let same = c.deref.ensures.value ∙ c.reserve.ensures.items in
    let made = slots_after c.self.inside.slots.items c.reserve.new.self.items c.empty.new.slots.items c.push_reserved.new.self.items c.in_ok-before.before _ c.args.entity c.args.value c.reserve.ensures.items c.in_ok-before.ensures.before (ap (place (same_entity c.args.entity)) same) c.empty.ensures.emptied c.push_reserved.ensures.items in record {
      once = once-put c.self.inside.slots.items c.push_reserved.new.self.items c.args.entity c.args.value c.self.invariant.0.0 made;
      placed = subst (IsPlaced c.note_next.new.places) (ap (λ slots. after_put slots (c.args.entity, c.args.value)) same ∙ sym made) (c.in_ok-before.ensures.ok c.args.value);
    }

pub invariant_of-self-2 : goal.invariant_of-self-2
invariant_of-self-2 g c =
    let same = c.deref.ensures.value ∙ c.reserve.ensures.items in
    let made = slots_after c.self.inside.slots.items c.reserve.new.self.items c.empty.new.slots.items c.push_reserved.new.self.items c.in_ok-before.before _ c.args.entity c.args.value c.reserve.ensures.items c.in_ok-before.ensures.before (ap (place (same_entity c.args.entity)) same) c.empty.ensures.emptied c.push_reserved.ensures.items in
    let put = standing-put c.self.inside.slots.items c.push_reserved.new.self.items c.args.entity c.args.value c.self.invariant.0.0 made in (
      (
        subst (IsOnce same_entity) (sym c.close_up.ensures.events) (once-put c.self.inside.slots.items c.push_reserved.new.self.items c.args.entity c.args.value c.self.invariant.0.0 made),
        c.close_up.ensures.placed,
        c.close_up.ensures.few_holes,
      ),
      marked-put c.self.inside.kinds c.mark.new.self (standing c.self.inside.slots.items) (standing c.close_up.new.slots.items) (c.args.entity, c.args.value) c.self.invariant.1 c.mark.ensures (c.close_up.ensures.events ∙ put),
    )

pub returns-clause-ok : goal.returns-clause-ok
returns-clause-ok g c =
    let same = c.deref.ensures.value ∙ c.reserve.ensures.items in
    let made = slots_after c.self.inside.slots.items c.reserve.new.self.items c.empty.new.slots.items c.push_reserved.new.self.items c.in_ok-before.before _ c.args.entity c.args.value c.reserve.ensures.items c.in_ok-before.ensures.before (ap (place (same_entity c.args.entity)) same) c.empty.ensures.emptied c.push_reserved.ensures.items in
    c.close_up.ensures.events
    ∙ standing-put c.self.inside.slots.items c.push_reserved.new.self.items c.args.entity c.args.value c.self.invariant.0.0 made
    ∙ ap (λ events. without c.args.entity events ++ (c.args.entity, c.args.value) ∷ []) c.self.view_is
