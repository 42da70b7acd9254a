use Rattle.std.proofs.Common.{sym, ap, ◌∙◌, ◌<◌, length, arith}
use Rattle.std.specs.FinMap as map
use Rattle.std.proofs.lemmas.List.{get_or_read}
use Rattle.tabled_kept.specs.Slots.{slots_total}
use Rattle.tabled_kept.proofs.SlotLemmas.{nothing_taken}
use Rattle.tabled_kept.proofs.TableLemmas.{in_slot_of, in_no_row, in_rows-take, exact_slots}
use Rattle.tabled_kept.proofs.table.Table.take.Goals as goal

pub returns-then-slot-len-clause-before : goal.returns-then-slot-len-clause-before
returns-then-slot-len-clause-before g c =
    let rows = c.self.inside.rows.items in
    let row = get_or_read rows c.args.slot.row _ (omega (arith, c.if-slot-len.true, c.len.ensures, c.self.inside.rows.ok.0)) c.index_mut.ensures.value map.empty in
    c.take-before.ensures.before ∙ ap (λ r. map.get r c.args.slot.col) row ∙ sym (in_slot_of rows c.args.self.now c.self.view_is c.args.slot)

pub returns-then-slot-len-clause-removed : goal.returns-then-slot-len-clause-removed
returns-then-slot-len-clause-removed g c =
    let rows = c.self.inside.rows.items in
    let inside : c.args.slot.row < length rows = omega (arith, c.if-slot-len.true, c.len.ensures, c.self.inside.rows.ok.0) in
    in_rows-take rows c.args.slot c.take-before.new.self _ inside (get_or_read rows c.args.slot.row _ inside c.index_mut.ensures.value map.empty) c.take-before.ensures.removed
    ∙ ap (λ m. map.remove m c.args.slot) c.self.view_is

pub returns-clause-before : goal.returns-clause-before
returns-clause-before g c =
    sym (in_no_row c.self.inside.rows.items c.args.self.now c.self.view_is c.args.slot (omega (arith, c.if-slot-len.false, c.len.ensures, c.self.inside.rows.ok.0)))

pub returns-clause-removed : goal.returns-clause-removed
returns-clause-removed g c =
    let none = in_no_row c.self.inside.rows.items c.args.self.now c.self.view_is c.args.slot (omega (arith, c.if-slot-len.false, c.len.ensures, c.self.inside.rows.ok.0)) in
    sym (nothing_taken slots_total exact_slots c.args.self.now c.args.slot none)
