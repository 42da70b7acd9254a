-- The row and the column of the text are measured.
use Rattle.std.proofs.Common.{◌≡◌, ◌<◌, List, [], length, drop, set, get_or, String, string_bytes, Global, ap, ◌∙◌, arith}
use Rattle.std.specs.declared.vec.Vec.{Vec}
use Rattle.std.proofs.lemmas.List.{take_at}
use Rattle.tabled_width.specs.Texts.{Table, texts}
use Rattle.tabled_measure.specs.Edited.{text_set}
use Rattle.tabled_measure.specs.Sizes.{cell, column_count, column_width, row_height}
use Rattle.tabled_measure.proofs.ChangedLemmas.{same_unequal}
use Rattle.tabled_measure.proofs.EqualRows.{each-count}
use Rattle.tabled_measure.proofs.TextLemmas.{counts-set, heights-set, widths-set}
use Rattle.tabled_text.proofs.Even.{utf8_cells}
use Rattle.tabled_text.proofs.TableLemmas.{measured_by}
use Rattle.tabled_measure.proofs.Widths.{count_widths}
use Rattle.tabled_text.proofs.text_table.texts.TextTable.replace_text.Goals as goal

pub replace_in-requires-clause-col : goal.replace_in-requires-clause-col
replace_in-requires-clause-col c =
    let rows = ap (λ table. length table.texts) c.self.view_is in
    let cols = ap (λ table. column_count table.texts) c.self.view_is in
    let count = each-count (texts c.self.inside.cells.items) c.self.invariant.0 c.args.row (omega (arith, rows, c.requires.row)) in
    let here = ap (λ (found : List (Vec (String Global) Global)). length (get_or (texts found) c.args.row [])) c.deref_mut.ensures.value in
    omega (arith, cols, count, here, c.requires.col)

pub index_mut-requires : goal.index_mut-requires
index_mut-requires c =
    let long = ap length c.self.invariant.1 ∙ count_widths (texts c.self.inside.cells.items) ∙ ap (λ table. column_count table.texts) c.self.view_is in
    omega (arith, long, c.requires.col, c.self.inside.sizes.widths.ok)

pub invariant_of-self-2 : goal.invariant_of-self-2
invariant_of-self-2 c =
    let cells = c.self.inside.cells in
    let old = texts cells.items in
    let row = c.args.row in
    let col = c.args.col in
    let text = string_bytes c.args.text in
    let above : row < length old = let rows = ap (λ table. length table.texts) c.self.view_is in omega (arith, rows, c.requires.row) in
    let within : col < column_count old = let cols = ap (λ table. column_count table.texts) c.self.view_is in omega (arith, cols, c.requires.col) in
    let kept = take_at c.replace_in.new.rows (drop (length c.replace_in.new.rows) cells.items) cells.len (c.replace_in.auto.rows ∙ c.deref_mut.ensures.len) in
    let made : texts c.replace_in.new.rows ≡ text_set row col text old = c.in_ok-former.ensures.texts ∙ ap (λ (found : List (Vec (String Global) Global)). text_set row col text (texts found)) c.deref_mut.ensures.value in
    measured_by (ap texts kept ∙ made) (same_unequal old (text_set row col text old) (counts-set row col text old) c.self.invariant.0)
    ((λ i. set (c.self.invariant.1 i) col ((c.in_ok-former.ensures.width ∙ ap (λ (table : Table). column_width table col) made) i)) ∙ widths-set row col text old within)
    ((λ i. set (c.self.invariant.2 i) row ((c.in_ok-former.ensures.height ∙ ap (λ (table : Table). row_height (get_or table row [])) made) i)) ∙ heights-set row col text old above) (utf8_cells _)

pub returns-clause-former : goal.returns-clause-former
returns-clause-former c =
    c.in_ok-former.ensures.former
    ∙ ap (λ (rows : List (Vec (String Global) Global)). cell (get_or (texts rows) c.args.row []) c.args.col) c.deref_mut.ensures.value
    ∙ ap (λ table. cell (get_or table.texts c.args.row []) c.args.col) c.self.view_is

-- where memory is refused all is as it was
pub invariant_of-self : goal.invariant_of-self
invariant_of-self c =
    let cells = c.self.inside.cells in
    let kept = take_at c.replace_in.new.rows (drop (length c.replace_in.new.rows) cells.items) cells.len (c.replace_in.auto.rows ∙ c.deref_mut.ensures.len) in
    measured_by (ap texts kept ∙ c.in_err-former.ensures.err ∙ ap (λ (rows : List (Vec (String Global) Global)). texts rows) c.deref_mut.ensures.value) c.self.invariant.0 c.self.invariant.1 c.self.invariant.2 (utf8_cells _)
