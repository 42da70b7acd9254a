use Rattle.std.proofs.Common.{sym, ap, ◌∙◌, arith, slice_index_or}
use Rattle.std.specs.FinMap as map
use Rattle.tabled_keys.specs.Slots.{slot}
use Rattle.tabled_kept.proofs.SlotLemmas.{get-filled}
use Rattle.tabled_kept.proofs.TableLemmas.{in_slot_of, in_no_row}
use Rattle.tabled_kept.proofs.table.Table.first_row.Goals as goal

pub returns-in-Some : goal.returns-in-Some
returns-in-Some g c col =
    sym (get-filled c.as_slice.result.now col)
    ∙ ap (λ row. map.get row col) (c.as_slice.ensures ∙ c.in-Some.ensures.item.3.1 map.empty ∙ ap (λ rows. slice_index_or rows 0 map.empty) c.deref.ensures.value)
    ∙ sym (in_slot_of c.self.inside.rows.items c.args.self.now c.self.view_is (slot 0 col))

pub returns-in-None : goal.returns-in-None
returns-in-None g c col =
    sym (in_no_row c.self.inside.rows.items c.args.self.now c.self.view_is (slot 0 col) (omega (arith, c.in-None.ensures.item, c.deref.ensures.len, c.self.inside.rows.ok.0)))
