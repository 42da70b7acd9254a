use Rattle.std.proofs.Common.{sym, ap, ◌∙◌}
use Rattle.tabled_settings.specs.Setting.{same_entity}
use Rattle.tabled_settings.specs.Slots.{passes, event_at}
use Rattle.tabled_settings.proofs.InOrder.{found_else}
use Rattle.tabled_settings.proofs.Lasting.{entities_told}
use Rattle.tabled_settings.proofs.Placing.{place-none, place-found}
use Rattle.tabled_settings.proofs.slots.place_of.Goals as goal

pub returns-then-not-has : goal.returns-then-not-has
returns-then-not-has g c = sym (place-none (same_entity c.args.entity) c.args.slots.now (c.requires.marked c.args.entity (sym c.has.ensures ∙ c.if-not-has.true)))

pub returns-then-stands_at : goal.returns-then-stands_at
returns-then-stands_at g c = sym (place-found entities_told c.args.entity c.args.slots.now c.likely_place-likely.result c.requires.once (sym c.stands_at.ensures ∙ c.if-stands_at.true))

pub returns-then-stands_at-2 : goal.returns-then-stands_at-2
returns-then-stands_at-2 g c = sym (place-found entities_told c.args.entity c.args.slots.now c.guess-guess.result c.requires.once (sym c.stands_at-2.ensures ∙ c.if-stands_at-2.true))

pub returns : goal.returns
returns g c =
    c.copied.ensures ∙ c.get.ensures.value
    ∙ found_else c.args.places.now c.args.slots.now c.args.entity c.requires.placed
    (ap (λ at. passes (same_entity c.args.entity) (event_at c.args.slots.now at)) (sym c.likely_place-likely.ensures) ∙ sym c.stands_at.ensures ∙ c.if-stands_at.false)
