-- The table without the row is measured.
use Rattle.std.proofs.Common.{◌≡◌, ℕ, List, map, length, String, string_bytes, Global, Some, option_map, sym, ap, ◌∙◌, arith}
use Rattle.std.specs.declared.vec.Vec.{Vec}
use Rattle.std.specs.List.{remove, slice_get}
use Rattle.std.proofs.lemmas.Grind.{common_steps}
use Rattle.std.proofs.lemmas.Option.{slice_get-map, slice_get_read}
use Rattle.tabled_width.specs.Texts.{texts}
use Rattle.tabled_rows.proofs.RowLemmas.{remove-map}
use Rattle.tabled_measure.specs.Sizes.{column_widths, row_heights}
use Rattle.tabled_measure.proofs.EditedLemmas.{unequal-remove}
use Rattle.tabled_text.proofs.Even.{utf8_cells}
use Rattle.tabled_text.proofs.TableLemmas.{measured_by}
use Rattle.tabled_text.proofs.text_table.rows.TextTable.remove_row.Goals as goal

-- the new texts, by those that stood there
left : (c : goal.After-drop) → texts c.remove-row.new.self.items ≡ remove (texts c.self.inside.cells.items) c.args.index
left c = ap texts c.remove-row.ensures.items ∙ remove-map (λ (row : Vec (String Global) Global). map string_bytes row.items) c.self.inside.cells.items c.args.index

pub invariant_of-self : goal.invariant_of-self
invariant_of-self c =
    let measured = ap texts c.deref.ensures.value ∙ left c in
    measured_by (left c) (unequal-remove (texts c.self.inside.cells.items) c.args.index c.self.invariant.0)
    (ap (λ sizes. sizes.widths.items) c.replace.ensures.after ∙ c.in-Ok.ensures.widths ∙ ap column_widths measured)
    (ap (λ sizes. sizes.heights.items) c.replace.ensures.after ∙ c.in-Ok.ensures.heights ∙ ap row_heights measured) (utf8_cells _)

pub returns-in-Ok-clause-texts : goal.returns-in-Ok-clause-texts
returns-in-Ok-clause-texts c = left c ∙ ap (λ table. remove table.texts c.args.index) c.self.view_is

pub returns-in-Ok-clause-row : goal.returns-in-Ok-clause-row
returns-in-Ok-clause-row c =
    let text_of : Vec (String Global) Global → List (List ℕ) = λ row. map string_bytes row.items in
    let cells = c.self.inside.cells.items in
    let row = c.remove-row.result in
    let there : slice_get cells c.args.index ≡ Some row = slice_get_read cells (length cells) c.args.index row (λ _. length cells) (omega arith) c.remove-row.ensures.value in
    ap (option_map text_of) (sym there) ∙ sym (slice_get-map text_of cells c.args.index) ∙ ap (λ table. slice_get table.texts c.args.index) c.self.view_is

-- the row stands again where it stood
pub invariant_of-self-in-Err : goal.invariant_of-self-in-Err
invariant_of-self-in-Err c =
    let back : c.insert.new.self.items ≡ c.self.inside.cells.items = grind (arith, common_steps) in
    measured_by (ap texts back) c.self.invariant.0 c.self.invariant.1 c.self.invariant.2 (utf8_cells _)
