-- Tables with another text in a cell.
use Rattle.std.proofs.Common.{◌≡◌, ◌≢◌, ◌⊎◌, ℕ, ◌<◌, ◌≤◌, Some, None, List, [], map, length, get_or, set, inl, inr, String, string_bytes, sym, ap, ◌∙◌, arith}
use Rattle.std.specs.declared.vec.Vec.{Vec}
use Rattle.std.proofs.lemmas.Bool.{cases_eq, cases_lt}
use Rattle.std.proofs.lemmas.List.{length-set, map-set, get_or_past, get_or-set_same, get_or-set_other, set-set, set-get_or, set_past}
use Rattle.std.proofs.lemmas.Option.{slice_get-get_or, slice_get_past}
use Rattle.std.proofs.Math.Seq.{map-set_same}
use Rattle.tabled_cells.specs.Placed.{greatest}
use Rattle.tabled_width.specs.Texts.{Table, texts}
use Rattle.tabled_rows.proofs.RowLemmas.{row-at}
use Rattle.tabled_measure.specs.Edited.{text_at, text_set}
use Rattle.tabled_measure.specs.Sizes.{cell, column_count, column_width, column_widths, row_height, row_heights, unequal_row, width_asked}
use Rattle.tabled_measure.proofs.ChangedLemmas.{same_columns}
use Rattle.tabled_measure.proofs.EqualRows.{each-count}
use Rattle.tabled_measure.proofs.Widths.{count_widths, width-at, widths-by}

-- a row in whose place one with another text is put
module _ {Z W : Type 0} where
  pub texts-set : (rows : List (Vec (String Z) W)) (row col : ℕ) (old new : Vec (String Z) W) (text : String Z) → row < length rows → old ≡ get_or rows row old → new.items ≡ set old.items col text
      → texts (set rows row new) ≡ text_set row col (string_bytes text) (texts rows)
  texts-set rows row col old new text inside is changed =
      map-set (λ (cells : Vec (String Z) W). map string_bytes cells.items) rows row new
      ∙ ap (set (texts rows) row)
      (ap (map string_bytes) changed ∙ map-set string_bytes old.items col text
      ∙ ap (λ (cells : List (List ℕ)). set cells col (string_bytes text)) (ap (λ (cells : Vec (String Z) W). map string_bytes cells.items) is ∙ sym (row-at rows row old inside)))

-- as many cells in each row as before
pub counts-set : (row col : ℕ) (text : List ℕ) (table : Table) → map length (text_set row col text table) ≡ map length table
counts-set row col text table = map-set_same length table row (set (get_or table row []) col text) [] (length-set (get_or table row []) col text)

-- the row with the text
pub row-set : (row col : ℕ) (text : List ℕ) (table : Table) → row < length table → get_or (text_set row col text table) row [] ≡ set (get_or table row []) col text
row-set row col text table inside = get_or-set_same table row (set (get_or table row []) col text) [] inside

-- a text that is put back
pub put_back : (row col : ℕ) (text former : List ℕ) (table : Table) → row < length table → former ≡ cell (get_or table row []) col → text_set row col former (text_set row col text table) ≡ table
put_back row col text former table inside is =
    let cells = get_or table row [] in
    let new = text_set row col text table in
    let back : set (get_or new row []) col former ≡ cells =
    ap (λ (found : List (List ℕ)). set found col former) (row-set row col text table inside) ∙ set-set cells col text former ∙ ap (set cells col) is ∙ set-get_or cells col [] in
    ap (set new row) back ∙ set-set table row (set cells col text) cells ∙ set-get_or table row []

-- how wide a column is in which no text is another
width-other : (row col : ℕ) (text : List ℕ) (table : Table) (k : ℕ) → k ≢ col → column_width (text_set row col text table) k ≡ column_width table k
width-other row col text table k other =
    ap greatest (map-set_same (λ (cells : List (List ℕ)). width_asked (cell cells k)) table row (set (get_or table row []) col text) []
    (ap width_asked (get_or-set_other (get_or table row []) col k text [] other)))

pub widths-set : (row col : ℕ) (text : List ℕ) (table : Table) → col < column_count table
    → set (column_widths table) col (column_width (text_set row col text table) col) ≡ column_widths (text_set row col text table)
widths-set row col text table inside =
    let new = text_set row col text table in
    let widths = column_widths table in
    let width = column_width new col in
    let columns = same_columns table new (counts-set row col text table) in
    widths-by (set widths col width) new (length-set widths col width ∙ count_widths table ∙ sym columns)
    (λ k within. elim (cases_eq k col) [
      | inl same ↦ ap (λ n. get_or (set widths col width) n 0) same ∙ get_or-set_same widths col width 0 (omega (arith, count_widths table, inside)) ∙ ap (column_width new) (sym same)
      | inr other ↦ get_or-set_other widths col k width 0 other ∙ width-at table k (omega (arith, within, columns)) ∙ sym (width-other row col text table k other)
    ])

pub heights-set : (row col : ℕ) (text : List ℕ) (table : Table) → row < length table
    → set (row_heights table) row (row_height (get_or (text_set row col text table) row [])) ≡ row_heights (text_set row col text table)
heights-set row col text table inside =
    ap (λ (cells : List (List ℕ)). set (row_heights table) row (row_height cells)) (row-set row col text table inside)
    ∙ sym (map-set row_height table row (set (get_or table row []) col text))

-- where a table has no such cell
past_row : (row col : ℕ) (table : Table) → unequal_row table ≡ None → (length table ≤ row) ⊎ (column_count table ≤ col) → (length (get_or table row []) ≤ col) ⊎ (length table ≤ row)
past_row row col table none past = elim (cases_lt row (length table)) [
  | inl within ↦ inl (elim past [
    | inl below ↦ absurd (omega (arith, below, within))
    | inr right ↦ omega (arith, right, each-count table none row within)
  ])
  | inr below ↦ inr below
]

pub text_past : (row col : ℕ) (text : List ℕ) (table : Table) → unequal_row table ≡ None → (length table ≤ row) ⊎ (column_count table ≤ col) → table ≡ text_set row col text table
text_past row col text table none past = elim (past_row row col table none past) [
  | inl right ↦ sym (ap (set table row) (set_past (get_or table row []) col text right) ∙ set-get_or table row [])
  | inr below ↦ sym (set_past table row (set (get_or table row []) col text) below)
]

pub none_past : (row col : ℕ) (table : Table) → unequal_row table ≡ None → (length table ≤ row) ⊎ (column_count table ≤ col) → None ≡ text_at row col table
none_past row col table none past =
    sym (slice_get_past (get_or table row []) col (elim (past_row row col table none past) [
      | inl right ↦ right
      | inr below ↦ let no : length (get_or table row []) ≡ 0 = ap length (get_or_past table row [] below) in omega (arith, no)
    ]))

-- where it has it
pub text_there : (row col : ℕ) (text : List ℕ) (table : Table) → unequal_row table ≡ None → row < length table → col < column_count table → text ≡ cell (get_or table row []) col → Some text ≡ text_at row col table
text_there row col text table none inside within is =
    ap Some is ∙ sym (slice_get-get_or (get_or table row []) col [] (omega (arith, within, each-count table none row inside)))
