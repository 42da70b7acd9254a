use Rattle.std.proofs.Common.{sym, ap, ◌∙◌, arith, None, slice_set}
use Rattle.std.specs.FinMap as map
use Rattle.std.proofs.lemmas.List.{get_or_read}
use Rattle.tabled_kept.specs.Slots.{filled}
use Rattle.tabled_kept.proofs.SlotLemmas.{in_slot, in_no_slot, filled-take, nothing_taken}
use Rattle.std.specs.Cmp.{nat_cmp_total}
use Rattle.tabled_kept.proofs.slots.Slots.take.Goals as goal

pub returns-then-at-len-clause-before : goal.returns-then-at-len-clause-before
returns-then-at-len-clause-before g c =
    let slots = c.self.inside.slots.items in
    c.take.ensures.value ∙ get_or_read slots c.args.at _ (omega (arith, c.if-at-len.true, c.len.ensures, c.self.inside.slots.ok.0)) c.index_mut.ensures.value None
    ∙ sym (in_slot slots c.args.self.now c.self.view_is c.args.at)

pub returns-then-at-len-clause-removed : goal.returns-then-at-len-clause-removed
returns-then-at-len-clause-removed g c =
    let slots = c.self.inside.slots.items in
    ap (λ slot. filled (slice_set slots c.args.at slot)) c.take.ensures.after
    ∙ filled-take slots c.args.at (omega (arith, c.if-at-len.true, c.len.ensures, c.self.inside.slots.ok.0)) ∙ ap (λ m. map.remove m c.args.at) c.self.view_is

pub returns-clause-before : goal.returns-clause-before
returns-clause-before g c =
    sym (in_no_slot c.self.inside.slots.items c.args.self.now c.self.view_is c.args.at (omega (arith, c.if-at-len.false, c.len.ensures, c.self.inside.slots.ok.0)))

pub returns-clause-removed : goal.returns-clause-removed
returns-clause-removed g c =
    let none = in_no_slot c.self.inside.slots.items c.args.self.now c.self.view_is c.args.at (omega (arith, c.if-at-len.false, c.len.ensures, c.self.inside.slots.ok.0)) in
    sym (nothing_taken nat_cmp_total map.nat_cmp-IsAntisymmetric c.args.self.now c.args.at none)
