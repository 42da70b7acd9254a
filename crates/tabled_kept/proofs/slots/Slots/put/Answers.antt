use Rattle.std.proofs.Common.{sym, ap, ◌∙◌, arith, None, slice_set}
use Rattle.std.specs.FinMap as map
use Rattle.std.proofs.lemmas.List.{get_or_read}
use Rattle.tabled_kept.specs.Slots.{filled}
use Rattle.tabled_kept.proofs.SlotLemmas.{in_slot, in_no_slot, filled-put}
use Rattle.tabled_kept.proofs.slots.Slots.put.Goals as goal

pub returns-in_default-clause-absent : goal.returns-in_default-clause-absent
returns-in_default-clause-absent g c =
    in_no_slot c.self.inside.slots.items c.args.self.now c.self.view_is c.args.at (omega (arith, c.in_default.ensures.missing, c.self.inside.slots.ok.0))

pub returns-clause-before : goal.returns-clause-before
returns-clause-before g c =
    let slots = c.reach.new.slots.items in
    c.replace.ensures.value ∙ get_or_read slots c.args.at _ (omega (arith, c.in-Ok.ensures.there, c.reach.new.slots.ok.0)) c.index_mut.ensures.value None
    ∙ sym (in_slot slots c.args.self.now (c.in-Ok.ensures.same ∙ c.self.view_is) c.args.at)

pub returns-clause-ok : goal.returns-clause-ok
returns-clause-ok g c =
    let slots = c.reach.new.slots.items in
    ap (λ slot. filled (slice_set slots c.args.at slot)) c.replace.ensures.after
    ∙ filled-put slots c.args.at c.args.value (omega (arith, c.in-Ok.ensures.there, c.reach.new.slots.ok.0))
    ∙ ap (λ m. map.insert m c.args.at c.args.value) (c.in-Ok.ensures.same ∙ c.self.view_is)
