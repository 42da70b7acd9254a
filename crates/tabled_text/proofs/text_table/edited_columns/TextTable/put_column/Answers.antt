-- The table with a column more is measured; a column without texts goes into no rows alone.
use Rattle.std.proofs.Common.{◌≡◌, ◌<◌, true, List, map, min, length, String, string_bytes, Global, sym, ap, ◌∙◌, arith}
use Rattle.std.specs.List.{insert}
use Rattle.std.proofs.lemmas.Bool.Decides.{nat_tests}
use Rattle.std.proofs.lemmas.List.{length-map}
use Rattle.tabled_cells.specs.Placed.{greatest}
use Rattle.tabled_width.specs.Texts.{texts}
use Rattle.tabled_measure.specs.EditedColumns.{column_goes_in, heights_with}
use Rattle.tabled_measure.specs.Sizes.{column_count, width_asked}
use Rattle.tabled_measure.proofs.ColumnLemmas.{heights-with, nothing_in, unequal-with, widths-with, with-min}
use Rattle.tabled_measure.proofs.EqualRows.{same_count}
use Rattle.tabled_text.proofs.Even.{utf8_cells}
use Rattle.tabled_text.proofs.TableLemmas.{measured_by}
use Rattle.tabled_measure.proofs.Widths.{count_widths}
use Rattle.tabled_text.proofs.text_table.edited_columns.TextTable.put_column.Goals as goal

pub returns-then-is_empty-clause-texts : goal.returns-then-is_empty-clause-texts
returns-then-is_empty-clause-texts c =
    let count = length-map c.args.column.items (string_bytes {Z = Global}) in
    let short = same_count _ 0 (sym c.is_empty.ensures ∙ c.if-is_empty.true) in
    nothing_in c.args.index (map string_bytes c.args.column.items) c.args.self.now.texts (omega (arith, short, count, c.args.column.ok)) c.requires

pub invariant_of-self-2 : goal.invariant_of-self-2
invariant_of-self-2 c =
    let old = texts c.self.inside.cells.items in
    let at = min c.args.index (column_count old) in
    let column = map (string_bytes {Z = Global}) c.args.column.items in
    let none = c.self.invariant.0 in
    let fits : column_goes_in column old ≡ true = ap (λ table. column_goes_in column table.texts) c.self.view_is ∙ c.requires in
    let some : 0 < length column = let count = length-map c.args.column.items (string_bytes {Z = Global}) in grind (arith, nat_tests, count, c.args.column.ok, c.is_empty.ensures, c.if-is_empty.false) in
    let place : c.min-at.result ≡ at = let long = ap length c.self.invariant.1 ∙ count_widths old in omega (arith, long, c.min-at.ensures, c.self.inside.sizes.widths.ok) in
    let inserted : c.insert.new.self.items ≡ insert c.reserve.new.self.items c.min-at.result c.in_ok-width.width = rw (c.insert.ensures.succeeds (omega (arith, c.in_ok-reserve.ensures.ok))) at c.insert.ensures.items in
    let width : c.in_ok-width.width ≡ greatest (map width_asked column) =
    c.in_ok-width.ensures ∙ ap (λ (items : List (String Global)). greatest (map width_asked (map string_bytes items))) c.deref.ensures.value in
    measured_by (c.in_ok-put_into.ensures.texts ∙ sym (with-min c.args.index column old none fits)) (unequal-with at column old none fits (omega arith))
    (inserted ∙ (λ i. insert ((c.reserve.ensures.items ∙ c.self.invariant.1) i) (place i) (width i)) ∙ widths-with at column old none fits (omega arith) some)
    (ap (λ heights. heights.items) c.replace.ensures.after ∙ c.in_ok-heights.ensures ∙ (λ i. heights_with ((c.deref-2.ensures.value ∙ c.self.invariant.2) i) (map string_bytes (c.deref-3.ensures.value i))) ∙ heights-with at column old) (utf8_cells _)

-- where memory is refused all is as it was
pub invariant_of-self-in_err-put_into : goal.invariant_of-self-in_err-put_into
invariant_of-self-in_err-put_into c = measured_by c.in_err-put_into.ensures.err c.self.invariant.0 (c.reserve.ensures.items ∙ c.self.invariant.1) c.self.invariant.2 (utf8_cells _)
