-- The table without the column is measured.
use Rattle.std.proofs.Common.{◌≡◌, ◌<◌, ◌++◌, ℕ, List, map, length, take, drop, String, Global, ap, ◌∙◌, arith}
use Rattle.std.specs.declared.vec.Vec.{Vec}
use Rattle.std.specs.List.{remove}
use Rattle.std.proofs.lemmas.List.{take_at}
use Rattle.tabled_width.specs.Texts.{Table, texts}
use Rattle.tabled_measure.specs.EditedColumns.{without_column}
use Rattle.tabled_measure.specs.Sizes.{cell, column_count, row_heights}
use Rattle.tabled_measure.proofs.ColumnLemmas.{unequal-without, widths-without}
use Rattle.tabled_text.proofs.Even.{utf8_cells}
use Rattle.tabled_text.proofs.TableLemmas.{measured_by}
use Rattle.tabled_measure.proofs.Widths.{count_widths}
use Rattle.tabled_configuration.proofs.InTurn.{where_refused}
use Rattle.tabled_text.proofs.text_table.edited_columns.TextTable.take_out.Goals as goal

pub remove-requires : goal.remove-requires
remove-requires c =
    let long = ap length c.self.invariant.1 ∙ count_widths (texts c.self.inside.cells.items) ∙ ap (λ table. column_count table.texts) c.self.view_is in
    omega (arith, long, c.requires, c.self.inside.sizes.widths.ok)

pub invariant_of-self-2 : goal.invariant_of-self-2
invariant_of-self-2 c =
    let cells = c.self.inside.cells in
    let old = texts cells.items in
    let index = c.args.index in
    let none = c.self.invariant.0 in
    let heights = c.measure_heights.new.heights in
    let inside : index < column_count old = let same = ap (λ table. column_count table.texts) c.self.view_is in omega (arith, same, c.requires) in
    let kept = take_at c.take_column.new.rows (drop (length c.take_column.new.rows) cells.items) cells.len (c.take_column.auto.rows ∙ c.deref_mut.ensures.len) in
    let left = ap texts kept ∙ c.in_ok-column.ensures.texts ∙ ap (λ (rows : List (Vec (String Global) Global)). without_column index (texts rows)) c.deref_mut.ensures.value in
    measured_by left (unequal-without index old none inside)
    (c.remove.ensures.items ∙ ap (λ (ws : List ℕ). remove ws index) c.self.invariant.1 ∙ widths-without index old none inside)
    (take_at heights (drop (length heights) c.self.inside.sizes.heights.items) c.self.inside.sizes.heights.len (c.measure_heights.auto.heights ∙ c.deref_mut-2.ensures.len)
    ∙ c.measure_heights.ensures ∙ ap (λ (rows : List (Vec (String Global) Global)). row_heights (texts rows)) c.deref.ensures.value ∙ ap row_heights left) (utf8_cells _)

pub returns-clause-column : goal.returns-clause-column
returns-clause-column c =
    let texts_of : Table → List (List ℕ) = map (λ row. cell row c.args.index) in
    c.in_ok-column.ensures.column ∙ ap (λ (rows : List (Vec (String Global) Global)). texts_of (texts rows)) c.deref_mut.ensures.value ∙ ap (λ table. texts_of table.texts) c.self.view_is

-- where memory is refused all is as it was
back : (c : goal.After-from_residual) → texts (take c.self.inside.cells.len (c.take_column.new.rows ++ drop (length c.take_column.new.rows) c.self.inside.cells.items)) ≡ texts c.self.inside.cells.items
back c =
    let kept = take_at c.take_column.new.rows (drop (length c.take_column.new.rows) c.self.inside.cells.items) c.self.inside.cells.len (c.take_column.auto.rows ∙ c.deref_mut.ensures.len) in
    ap texts kept ∙ c.in_err-column.ensures.err ∙ ap (λ (rows : List (Vec (String Global) Global)). texts rows) c.deref_mut.ensures.value

pub invariant_of-self : goal.invariant_of-self
invariant_of-self c = measured_by (back c) c.self.invariant.0 c.self.invariant.1 c.self.invariant.2 (utf8_cells _)

pub returns-in_err-column-clause-err : goal.returns-in_err-column-clause-err
returns-in_err-column-clause-err c = where_refused c.from_residual.result (back c ∙ ap (λ table. table.texts) c.self.view_is)
