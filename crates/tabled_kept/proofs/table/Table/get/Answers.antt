use Rattle.std.proofs.Common.{sym, ap, ◌∙◌, arith, slice_index_or}
use Rattle.std.specs.FinMap as map
use Rattle.tabled_kept.proofs.TableLemmas.{in_slot_of, in_no_row}
use Rattle.tabled_kept.proofs.table.Table.get.Goals as goal

pub returns-in-Some : goal.returns-in-Some
returns-in-Some g c =
    c.get-in-Some.ensures
    ∙ ap (λ row. map.get row c.args.slot.col) (c.in-Some.ensures.lookup.3.1 map.empty ∙ ap (λ rows. slice_index_or rows c.args.slot.row map.empty) c.deref.ensures.value)
    ∙ sym (in_slot_of c.self.inside.rows.items c.args.self.now c.self.view_is c.args.slot)

pub returns-in-None : goal.returns-in-None
returns-in-None g c =
    sym (in_no_row c.self.inside.rows.items c.args.self.now c.self.view_is c.args.slot (omega (arith, c.in-None.ensures.lookup, c.deref.ensures.len, c.self.inside.rows.ok.0)))
