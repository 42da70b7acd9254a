use Rattle.std.proofs.Common.{refl, sym, ◌∙◌}
use Rattle.tabled_settings.proofs.InARow.{stands_now}
use Rattle.tabled_settings.proofs.InOrder.{told_empty, told_likely, none_yet, order_put, placed_in_order, placed_by_event}
use Rattle.tabled_settings.proofs.Lasting.{places-put}
use Rattle.tabled_settings.proofs.places.note_next.Goals as goal

pub returns-then-eq-clause-before : goal.returns-then-eq-clause-before
returns-then-eq-clause-before g c =
    let empty = told_empty c.args.places.now c.is_empty.result c.is_empty.ensures c.if-is_empty.true in
    sym (none_yet c.args.slots.now c.args.entity (c.requires.1.in_order empty) (sym c.likely_place.ensures ∙ told_likely c.likely_place.result _ (sym c.eq.ensures ∙ c.if-eq.true)))

pub returns-then-eq-clause-ok : goal.returns-then-eq-clause-ok
returns-then-eq-clause-ok g c = λ value.
    let empty = told_empty c.args.places.now c.is_empty.result c.is_empty.ensures c.if-is_empty.true in
    placed_in_order c.args.places.now _ empty
    (order_put c.args.slots.now (c.args.entity, value) (c.requires.1.in_order empty) (sym c.likely_place.ensures ∙ told_likely c.likely_place.result _ (sym c.eq.ensures ∙ c.if-eq.true)))

pub returns-clause-ok : goal.returns-clause-ok
returns-clause-ok g c = λ value.
    placed_by_event c.insert.new.self _ c.args.entity
    (places-put c.args.slots.now _ c.args.entity value c.requires.0 refl c.note_standing.new.places c.insert.new.self _ c.in_ok-note_standing.ensures.ok refl c.in_ok-before.ensures.updates)
    (stands_now c.args.slots.now (c.args.entity, value))
