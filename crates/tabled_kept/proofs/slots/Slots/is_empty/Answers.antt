use Rattle.std.proofs.Common.{sym, ap, ◌∙◌, arith, None, is_some, refl}
use Rattle.std.proofs.lemmas.List.{get_or_read}
use Rattle.tabled_kept.specs.Slots.{filled}
use Rattle.tabled_kept.proofs.SlotLemmas.{all_empty, not_empty}
use Rattle.tabled_kept.proofs.slots.Slots.is_empty.Goals as goal

pub returns-then-is_some : goal.returns-then-is_some
returns-then-is_some g c =
    let items = c.deref-slot-items.result.now in
    let at = c.loop-slot.slot-index in
    let some = ap is_some (sym (get_or_read items at _ c.loop-slot-test.true c.slot-item.is None)) ∙ sym c.is_some.ensures ∙ c.if-is_some.true in
    let seen = ap filled c.deref-slot-items.ensures.value ∙ c.self.view_is in
    (λ no. absurd cc, λ none. not_empty items at some (seen ∙ none))

pub returns : goal.returns
returns g c =
    let items = c.deref-slot-items.result.now in
    let none = all_empty items (λ k h. c.loop-slot.invariant k (omega (arith, h, c.loop-slot-test.false))) in
    (λ yes. sym (ap filled c.deref-slot-items.ensures.value ∙ c.self.view_is) ∙ none, λ none. refl)
