use Rattle.std.proofs.Common.{sym, ap, ◌∙◌, take}
use Rattle.std.proofs.lemmas.List.{take_more}
use Rattle.tabled_settings.specs.Slots.{emptied, all_emptied}
use Rattle.tabled_settings.proofs.InARow.{emptied_more}
use Rattle.tabled_settings.proofs.slots.replace_by.Goals as goal

pub loop-place-preserved : goal.loop-place-preserved
loop-place-preserved g c =
    c.empty.ensures.emptied ∙ ap (emptied _) c.loop-place.invariant
    ∙ sym (ap (λ places. all_emptied places c.loop-event.slots.items) (take_more c.args.before.now c.loop-place.place-index _ c.loop-place-test.true) ∙ emptied_more (take c.loop-place.place-index c.args.before.now) _ c.loop-event.slots.items)
