-- The table with a row more is measured.
use Rattle.std.proofs.Common.{◌≡◌, true, map, String, string_bytes, Global, sym, ap, ◌∙◌, arith}
use Rattle.std.specs.declared.vec.Vec.{Vec}
use Rattle.std.specs.List.{insert}
use Rattle.tabled_configuration.proofs.InTurn.{where_refused}
use Rattle.tabled_width.specs.Texts.{Table, texts}
use Rattle.tabled_rows.proofs.RowLemmas.{insert-map}
use Rattle.tabled_measure.specs.Edited.{goes_in, widths_with}
use Rattle.tabled_measure.specs.Sizes.{row_height}
use Rattle.tabled_measure.proofs.EditedLemmas.{unequal-insert, widths-insert}
use Rattle.tabled_text.proofs.Even.{utf8_cells}
use Rattle.tabled_text.proofs.TableLemmas.{measured_by}
use Rattle.tabled_text.proofs.text_table.rows.TextTable.put_row.Goals as goal

pub returns-in_err-insert-clause-err : goal.returns-in_err-insert-clause-err
returns-in_err-insert-clause-err c = where_refused c.from_residual-in_err-insert.result (ap texts c.in_ok-reserve.ensures.items ∙ ap (λ table. table.texts) c.self.view_is)

-- the new texts, by those that stood there
put : (c : goal.After-drop) → texts c.insert-2.new.self.items ≡ insert (texts c.self.inside.cells.items) c.args.at (map string_bytes c.args.row.items)
put c =
    ap texts (rw (c.insert-2.ensures.succeeds (omega (arith, c.in_ok-reserve.ensures.ok))) at c.insert-2.ensures.items)
    ∙ insert-map (λ (row : Vec (String Global) Global). map string_bytes row.items) c.reserve.new.self.items c.args.at c.args.row
    ∙ ap (λ (table : Table). insert table c.args.at (map string_bytes c.args.row.items)) (ap texts c.in_ok-reserve.ensures.items)

pub invariant_of-self-2 : goal.invariant_of-self-2
invariant_of-self-2 c =
    let old = texts c.self.inside.cells.items in
    let at = c.args.at in
    let row = map string_bytes c.args.row.items in
    let none = c.self.invariant.0 in
    let fits : goes_in row old ≡ true = ap (λ table. goes_in row table.texts) c.self.view_is ∙ c.requires.fits in
    let cells : map string_bytes c.deref-2.result.now ≡ row = ap (map string_bytes) c.deref-2.ensures.value in
    measured_by (put c) (unequal-insert old at row none fits)
    (ap (λ widths. widths.items) c.replace.ensures.after ∙ c.in_ok-widths.ensures.widths ∙ (λ i. widths_with ((c.deref.ensures.value ∙ c.self.invariant.1) i) (cells i)) ∙ widths-insert old at row none fits)
    (c.in_ok-insert.ensures.items ∙ (λ i. insert (c.self.invariant.2 i) at ((c.in_ok-widths.ensures.height ∙ ap row_height cells) i)) ∙ sym (insert-map row_height old at row)) (utf8_cells _)

pub returns-clause-texts : goal.returns-clause-texts
returns-clause-texts c = put c ∙ ap (λ table. insert table.texts c.args.at (map string_bytes c.args.row.items)) c.self.view_is

-- where memory is refused all is as it was
pub invariant_of-self : goal.invariant_of-self
invariant_of-self c = measured_by (ap texts c.in_err-reserve.ensures.items) c.self.invariant.0 c.self.invariant.1 c.self.invariant.2 (utf8_cells _)

pub invariant_of-self-in_err-insert : goal.invariant_of-self-in_err-insert
invariant_of-self-in_err-insert c = measured_by (ap texts c.in_ok-reserve.ensures.items) c.self.invariant.0 c.self.invariant.1 (c.in_err-insert.ensures.items ∙ c.self.invariant.2) (utf8_cells _)
