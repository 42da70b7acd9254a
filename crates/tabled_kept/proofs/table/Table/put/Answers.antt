use Rattle.std.proofs.Common.{sym, ap, ◌∙◌, ◌<◌, length, arith}
use Rattle.std.specs.FinMap as map
use Rattle.std.proofs.lemmas.List.{get_or_read}
use Rattle.tabled_kept.proofs.TableLemmas.{in_slot_of, in_no_row, in_rows-put}
use Rattle.tabled_kept.proofs.table.Table.put.Goals as goal

pub returns-in_default-clause-absent : goal.returns-in_default-clause-absent
returns-in_default-clause-absent g c =
    in_no_row c.self.inside.rows.items c.args.self.now c.self.view_is c.args.slot (omega (arith, c.in_default.ensures.missing, c.self.inside.rows.ok.0))

pub returns-in_default-put-clause-absent : goal.returns-in_default-put-clause-absent
returns-in_default-put-clause-absent g c =
    let rows = c.reach.new.rows.items in
    let row = get_or_read rows c.args.slot.row _ (omega (arith, c.in-Ok.ensures.there, c.reach.new.rows.ok.0)) c.index_mut.ensures.value map.empty in
    in_slot_of rows c.args.self.now (c.in-Ok.ensures.same ∙ c.self.view_is) c.args.slot ∙ ap (λ r. map.get r c.args.slot.col) (sym row) ∙ c.in_default-put.ensures.absent

pub returns-clause-before : goal.returns-clause-before
returns-clause-before g c =
    let rows = c.reach.new.rows.items in
    let row = get_or_read rows c.args.slot.row _ (omega (arith, c.in-Ok.ensures.there, c.reach.new.rows.ok.0)) c.index_mut.ensures.value map.empty in
    c.in-Ok-put.ensures.before ∙ ap (λ r. map.get r c.args.slot.col) row
    ∙ sym (in_slot_of rows c.args.self.now (c.in-Ok.ensures.same ∙ c.self.view_is) c.args.slot)

pub returns-clause-ok : goal.returns-clause-ok
returns-clause-ok g c =
    let rows = c.reach.new.rows.items in
    let inside : c.args.slot.row < length rows = omega (arith, c.in-Ok.ensures.there, c.reach.new.rows.ok.0) in
    in_rows-put rows c.args.slot c.put.new.self _ c.args.value inside (get_or_read rows c.args.slot.row _ inside c.index_mut.ensures.value map.empty) c.in-Ok-put.ensures.ok
    ∙ ap (λ m. map.insert m c.args.slot c.args.value) (c.in-Ok.ensures.same ∙ c.self.view_is)
