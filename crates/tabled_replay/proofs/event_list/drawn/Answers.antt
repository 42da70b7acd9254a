use Rattle.std.proofs.Common.{◌<◌, ◌≤◌, is_some, sym, ap, ◌∙◌, arith}
use Rattle.tabled_places.specs.Drawn.{number}
use Rattle.tabled_replay.proofs.EventListLemmas.{drawn_past, drawn_found, drawn_nowhere}
use Rattle.tabled_replay.proofs.event_list.drawn.Goals as goal

pub returns-then-number-count : goal.returns-then-number-count
returns-then-number-count c =
    let past : c.args.count < number c.args.line = omega (arith, c.number.ensures) in
    sym (drawn_past _ _ _ past)

pub returns-then-is_some : goal.returns-then-is_some
returns-then-is_some c =
    let upto : number c.args.line ≤ c.args.count = omega (arith, c.number.ensures) in
    sym
    (drawn_found _ _ _ _ _ _ _ c.loop-event-test.true c.in-Write.is upto c.loop-event.invariant
    (sym c.draws.ensures ∙ c.if-draws.true)
    (sym (ap is_some c.replay.ensures) ∙ sym c.is_some.ensures ∙ c.if-is_some.true))

pub returns : goal.returns
returns c =
    let upto : number c.args.line ≤ c.args.count = omega (arith, c.number.ensures) in
    sym (drawn_nowhere _ _ _ _ c.loop-event-test.false upto c.loop-event.invariant)
