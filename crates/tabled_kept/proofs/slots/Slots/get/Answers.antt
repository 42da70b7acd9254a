use Rattle.std.proofs.Common.{sym, ap, ◌∙◌, None, arith, slice_index_or}
use Rattle.tabled_kept.proofs.SlotLemmas.{in_slot, in_no_slot}
use Rattle.tabled_kept.proofs.slots.Slots.get.Goals as goal

pub returns-in-Some : goal.returns-in-Some
returns-in-Some g c =
    c.as_ref.ensures.value ∙ c.in-Some.ensures.lookup.3.1 None ∙ ap (λ slots. slice_index_or slots c.args.at None) c.deref.ensures.value
    ∙ sym (in_slot c.self.inside.slots.items c.args.self.now c.self.view_is c.args.at)

pub returns-in-None : goal.returns-in-None
returns-in-None g c =
    sym (in_no_slot c.self.inside.slots.items c.args.self.now c.self.view_is c.args.at (omega (arith, c.in-None.ensures.lookup, c.deref.ensures.len)))
