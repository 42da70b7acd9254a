-- Tables with a column more or less.
use Rattle.std.proofs.Common.{◌≡◌, ◌==◌, ◌||◌, ◌⊎◌, ℕ, ◌+◌, ◌-◌, ◌<◌, ◌≤◌, zero, suc, min, max, Bool, true, false, if◌then◌else◌, Some, None, List, [], ◌∷◌, ◌++◌, map, length, get_or, replicate, inl, inr, refl, sym, ap, ◌∙◌, arith, append-nil, length-append}
use Rattle.std.specs.List.{insert, remove}
use Rattle.std.proofs.lemmas.Bool.{cases_lt, lt-ltb, le-ltb}
use Rattle.std.proofs.lemmas.Bool.Decides.{nat_tests}
use Rattle.std.proofs.lemmas.List.{length-map, length-replicate, get_or-map, ext_get_or, nil_from_length}
use Rattle.std.proofs.lemmas.List.Elements.{All-from_get_or, All-map, All-weaker}
use Rattle.std.proofs.lemmas.List.Edits.{get_or-insert_at, get_or-remove_below, get_or-remove_above, length-insert, length-remove}
use Rattle.std.proofs.lemmas.List.FromFn.{get_or-map-range_with_len, length-map-range_with_len, fill_by_all}
use Rattle.tabled_object.specs.Entities.{below}
use Rattle.tabled_cells.specs.Placed.{greatest}
use Rattle.tabled_width.specs.Texts.{Table}
use Rattle.tabled_rows.specs.Rows.{column_put, filled_to}
use Rattle.tabled_rows.proofs.RowLemmas.{insert-map, insert-min, remove-past}
use Rattle.tabled_measure.specs.EditedColumns.{column_at, column_goes_in, heights_with, with_column, without_column}
use Rattle.tabled_measure.specs.Sizes.{cell, column_count, column_width, column_widths, height_asked, row_height, row_heights, unequal_row, width_asked}
use Rattle.tabled_measure.proofs.EqualRows.{HasCells, HaveCells, count-by, each-count, even-by, have-cells, same_count}
use Rattle.tabled_measure.proofs.Widths.{count_widths, mapped_twice, maps-by, width-at, widths-by}
use Rattle.tabled_measure.proofs.EditedLemmas.{greatest-insert}

-- ---- a column more

-- how many rows a table has that takes a column, and how many cells each row has that is looked at
as-long : (column : List (List ℕ)) (table : Table) → column_goes_in column table ≡ true → (length table ≡ 0) ⊎ (length column ≡ length table)
as-long column [] fits = inl refl
as-long column (cells ∷ rows) fits = inr (same_count (length column) (suc (length rows)) (let some : (suc (length rows) == 0) ≡ false = grind (arith, nat_tests) in ap (λ (b : Bool). b || (length column == suc (length rows))) (sym some) ∙ fits))

row-count : (column : List (List ℕ)) (table : Table) → unequal_row table ≡ None → column_goes_in column table ≡ true → (r : ℕ) → r < length column → length (get_or table r []) ≡ column_count table
row-count column [] none fits r within = refl
row-count column (cells ∷ rows) none fits r within = elim (as-long column (cells ∷ rows) fits) [
  | inl absent ↦ absurd (omega (arith, absent))
  | inr same ↦ each-count (cells ∷ rows) none r (omega (arith, same, within))
]

length-with : (at : ℕ) (column : List (List ℕ)) (table : Table) → length (with_column at column table) ≡ length column
unfolding with_column
length-with at column table = length-map-range_with_len (λ (r : ℕ). insert (get_or table r []) at (cell column r)) 0 (length column)

row-with : (at : ℕ) (column : List (List ℕ)) (table : Table) (r : ℕ) → r < length column → get_or (with_column at column table) r [] ≡ insert (get_or table r []) at (cell column r)
unfolding with_column
row-with at column table r within = get_or-map-range_with_len (λ (k : ℕ). insert (get_or table k []) at (cell column k)) 0 (length column) r r [] within (omega arith)

module _ (at : ℕ) (column : List (List ℕ)) (table : Table) (none : unequal_row table ≡ None) (fits : column_goes_in column table ≡ true) (inside : at ≤ column_count table) where
  each-with : HaveCells (column_count table + 1) (with_column at column table)
  each-with = All-from_get_or (HasCells (column_count table + 1)) (with_column at column table) [] (λ r within.
      let here : r < length column = omega (arith, within, length-with at column table) in
      let count = row-count column table none fits r here in
      ap length (row-with at column table r here) ∙ length-insert (get_or table r []) at (cell column r) (omega (arith, inside, count)) ∙ ap (λ n. n + 1) count)

  pub unequal-with : unequal_row (with_column at column table) ≡ None
  unequal-with = even-by (column_count table + 1) (with_column at column table) each-with

  columns-with : 0 < length column → column_count (with_column at column table) ≡ column_count table + 1
  columns-with some = count-by (column_count table + 1) (with_column at column table) (omega (arith, some, length-with at column table)) each-with

  -- the column that is put in is as wide as its texts ask
  width-with : column_width (with_column at column table) at ≡ greatest (map width_asked column)
  width-with =
      ap greatest (maps-by (λ (cells : List (List ℕ)). width_asked (cell cells at)) width_asked 0 (with_column at column table) column [] [] (length-with at column table)
      (λ r here.
      let count = row-count column table none fits r here in
      ap (λ (cells : List (List ℕ)). width_asked (cell cells at)) (row-with at column table r here)
      ∙ ap width_asked (get_or-insert_at (get_or table r []) at (cell column r) [] (omega (arith, inside, count)))))

-- ---- a column less

length-without : (at : ℕ) (table : Table) → length (without_column at table) ≡ length table
unfolding without_column
length-without at table = length-map table (λ (row : List (List ℕ)). remove row at)

row-without : (at : ℕ) (table : Table) (r : ℕ) → r < length table → get_or (without_column at table) r [] ≡ remove (get_or table r []) at
unfolding without_column
row-without at table r within = get_or-map (λ (row : List (List ℕ)). remove row at) table r [] [] within

has-rows : (at : ℕ) (rows : Table) → at < column_count rows → 0 < length rows
has-rows at [] within = absurd (omega (arith, within))
has-rows at (cells ∷ rows) within = omega arith

module _ (at : ℕ) (table : Table) (none : unequal_row table ≡ None) (inside : at < column_count table) where
  each-without : HaveCells (column_count table - 1) (without_column at table)
  unfolding without_column
  each-without =
      All-map (HasCells (column_count table - 1)) (λ (row : List (List ℕ)). remove row at) table
      (All-weaker (HasCells (column_count table)) (λ row. HasCells (column_count table - 1) (remove row at)) (λ row is. omega (arith, inside, is, length-remove row at (omega (arith, inside, is)))) table (have-cells table none))

  pub unequal-without : unequal_row (without_column at table) ≡ None
  unequal-without = even-by (column_count table - 1) (without_column at table) each-without

  columns-without : column_count (without_column at table) ≡ column_count table - 1
  columns-without = count-by (column_count table - 1) (without_column at table) (omega (arith, has-rows at table inside, length-without at table)) each-without

  -- how wide a column is that stands elsewhere since
  width-without : (new old : ℕ) → ((row : List (List ℕ)) → at < length row → get_or (remove row at) new [] ≡ get_or row old []) → column_width (without_column at table) new ≡ column_width table old
  width-without new old moved =
      ap greatest (maps-by (λ (row : List (List ℕ)). width_asked (cell row new)) (λ (row : List (List ℕ)). width_asked (cell row old)) 0 (without_column at table) table [] [] (length-without at table)
      (λ r here.
      let count = each-count table none r here in
      ap (λ (row : List (List ℕ)). width_asked (cell row new)) (row-without at table r here) ∙ ap width_asked (moved (get_or table r []) (omega (arith, inside, count)))))

  pub widths-without : remove (column_widths table) at ≡ column_widths (without_column at table)
  widths-without =
      let widths = column_widths table in
      let long : at < length widths = omega (arith, inside, count_widths table) in
      widths-by (remove widths at) (without_column at table) (omega (arith, length-remove widths at long, count_widths table, columns-without))
      (λ k within. elim (cases_lt k at) [
        | inl before ↦ get_or-remove_below widths at 0 k before long ∙ width-at table k (omega (arith, before, inside)) ∙ sym (width-without k k (λ row has. get_or-remove_below row at [] k before has))
        | inr after ↦ get_or-remove_above widths at 0 k after long ∙ width-at table (k + 1) (omega (arith, within, columns-without)) ∙ sym (width-without k (k + 1) (λ row has. get_or-remove_above row at [] k after has))
      ])

-- ---- a column that is taken out again

taken-out : {X : Type 0} (xs : List X) (at : ℕ) (x : X) → at ≤ length xs → remove (insert xs at x) at ≡ xs
taken-out xs zero x inside = refl
taken-out [] (suc at) x inside = absurd (omega (arith, inside))
taken-out (y ∷ ys) (suc at) x inside = ap (λ zs. y ∷ zs) (taken-out ys at x (omega (arith, inside)))

-- a column that is put back
put-back : {X : Type 0} (xs : List X) (at : ℕ) (x none : X) → at < length xs → x ≡ get_or xs at none → insert (remove xs at) at x ≡ xs
put-back [] at x none inside is = absurd (omega (arith, inside))
put-back (y ∷ ys) zero x none inside is = ap (λ z. z ∷ ys) is
put-back (y ∷ ys) (suc at) x none inside is = ap (λ zs. y ∷ zs) (put-back ys at x none (omega (arith, inside)) is)

module _ (at : ℕ) (column : List (List ℕ)) (table : Table) (none : unequal_row table ≡ None) (fits : column_goes_in column table ≡ true) (inside : at ≤ column_count table) (some : 0 < length column) where
  -- how wide the other columns are
  width-again : (col : ℕ) → col < column_count table → column_width (without_column at (with_column at column table)) col ≡ column_width table col
  width-again col within =
      let new = with_column at column table in
      let rows : length column ≡ length table = elim (as-long column table fits) [
        | inl absent ↦ absurd (omega (arith, absent, has-rows col table within))
        | inr same ↦ same
      ] in
      ap greatest (maps-by (λ (row : List (List ℕ)). width_asked (cell row col)) (λ (row : List (List ℕ)). width_asked (cell row col)) 0 (without_column at new) table [] [] (length-without at new ∙ length-with at column table ∙ rows)
      (λ r there.
      let here : r < length column = omega (arith, there, rows) in
      let count = row-count column table none fits r here in
      ap (λ (row : List (List ℕ)). width_asked (cell row col)) (row-without at new r (omega (arith, here, length-with at column table)) ∙ ap (λ (row : List (List ℕ)). remove row at) (row-with at column table r here)
      ∙ taken-out (get_or table r []) at (cell column r) (omega (arith, inside, count)))))

  pub widths-with : insert (column_widths table) at (greatest (map width_asked column)) ≡ column_widths (with_column at column table)
  widths-with =
      let new = with_column at column table in
      let width = greatest (map width_asked column) in
      let columns = columns-with at column table none fits inside some in
      let there : at < column_count new = omega (arith, columns, inside) in
      let equal = unequal-with at column table none fits inside in
      let again : column_widths table ≡ column_widths (without_column at new) =
      widths-by (column_widths table) (without_column at new) (omega (arith, count_widths table, columns, columns-without at new equal there))
      (λ col within. let here : col < column_count table = omega (arith, within, columns, columns-without at new equal there) in width-at table col here ∙ sym (width-again col here)) in
      ap (λ (ws : List ℕ). insert ws at width) (again ∙ sym (widths-without at new equal there))
      ∙ put-back (column_widths new) at width 0 (omega (arith, count_widths new, there)) (sym (width-with at column table none fits inside) ∙ sym (width-at new at there))

-- ---- how high rows are

height-insert : (row : List (List ℕ)) (at : ℕ) (text : List ℕ) → row_height (insert row at text) ≡ max (row_height row) (height_asked text)
unfolding row_height
height-insert row at text = ap greatest (insert-map height_asked row at text) ∙ greatest-insert (map height_asked row) at (height_asked text)

height-of : (table : Table) (r : ℕ) → get_or (row_heights table) r 0 ≡ row_height (get_or table r [])
unfolding row_height
height-of [] r = refl
height-of (cells ∷ rows) zero = refl
height-of (cells ∷ rows) (suc r) = height-of rows r

pub heights-with : (at : ℕ) (column : List (List ℕ)) (table : Table) → heights_with (row_heights table) column ≡ row_heights (with_column at column table)
unfolding with_column
heights-with at column table =
    let higher : (r : ℕ) → max (get_or (row_heights table) r 0) (height_asked (cell column r)) ≡ row_height (insert (get_or table r []) at (cell column r)) =
    λ r. ap (λ n. max n (height_asked (cell column r))) (height-of table r) ∙ sym (height-insert (get_or table r []) at (cell column r)) in
    (λ i. map (λ r. higher r i) (below (length column))) ∙ mapped_twice row_height (λ r. insert (get_or table r []) at (cell column r)) (below (length column))

-- ---- rows that are filled up, and where a column stands past the last one

unfilled : (row : List (List ℕ)) → filled_to 0 row ≡ row
unfolding filled_to
unfilled row = let none : 0 - length row ≡ 0 = omega arith in ap (λ (n : ℕ). row ++ replicate n []) none ∙ append-nil row

row-padded : (count : ℕ) (table : Table) (r : ℕ) → get_or (table ++ replicate count []) r [] ≡ get_or table r []
row-padded zero [] r = refl
row-padded (suc count) [] zero = refl
row-padded (suc count) [] (suc r) = row-padded count [] r
row-padded count (cells ∷ rows) zero = refl
row-padded count (cells ∷ rows) (suc r) = row-padded count rows r

length-padded : (column : List (List ℕ)) (table : Table) → column_goes_in column table ≡ true → length (table ++ replicate (length column - length table) []) ≡ length column
length-padded column table fits =
    let long = length-append table (replicate (length column - length table) []) in
    let more = length-replicate {A = List (List ℕ)} (length column - length table) [] in
    elim (as-long column table fits) [
      | inl absent ↦ omega (arith, long, more, absent)
      | inr same ↦ omega (arith, long, more, same)
    ]

pub column-put : (at : ℕ) (column : List (List ℕ)) (table : Table) → column_goes_in column table ≡ true → column_put 0 at column (table ++ replicate (length column - length table) []) ≡ with_column at column table
unfolding column_put with_column
column-put at column table fits =
    let count = length column - length table in
    let padded = table ++ replicate count [] in
    λ i. map (λ r. insert ((unfilled (get_or padded r []) ∙ row-padded count table r) i) at (cell column r)) (below (length-padded column table fits i))

pub with-min : (at : ℕ) (column : List (List ℕ)) (table : Table) → unequal_row table ≡ None → column_goes_in column table ≡ true → with_column (min at (column_count table)) column table ≡ with_column at column table
unfolding with_column
with-min at column table none fits =
    fill_by_all (λ (r : ℕ). insert (get_or table r []) at (cell column r)) (with_column (min at (column_count table)) column table) (length column) [] (length-with (min at (column_count table)) column table)
    (λ r within.
    let here : r < length column = within in
    row-with (min at (column_count table)) column table r here ∙ insert-min (get_or table r []) at (column_count table) (cell column r) (sym (row-count column table none fits r here)))

-- a column without texts goes into a table without rows alone
pub nothing_in : (at : ℕ) (column : List (List ℕ)) (table : Table) → length column ≡ 0 → column_goes_in column table ≡ true → table ≡ with_column at column table
unfolding with_column
nothing_in at column table short fits =
    let empty : length table ≡ 0 = elim (as-long column table fits) [
      | inl none ↦ none
      | inr same ↦ omega (arith, same, short)
    ] in
    nil_from_length table empty ∙ sym (ap (λ (n : ℕ). map (λ r. insert (get_or table r []) at (cell column r)) (below n)) short)

-- ---- where no column stands

pub without_past : (at : ℕ) (table : Table) → unequal_row table ≡ None → column_count table ≤ at → table ≡ without_column at table
without_past at table none past =
    sym (ext_get_or [] (without_column at table) table (length-without at table)
    (λ r within.
    let here : r < length table = omega (arith, within, length-without at table) in
    let count = each-count table none r here in
    row-without at table r here ∙ remove-past (get_or table r []) at (omega (arith, past, count))))

pub column_past : (at : ℕ) (table : Table) → column_count table ≤ at → None ≡ column_at at table
unfolding column_at
column_past at table past = sym (ap (λ (b : Bool). if b then Some (map (λ row. cell row at) table) else None) (le-ltb at (column_count table) past))

pub column_there : (at : ℕ) (table : Table) → at < column_count table → Some (map (λ row. cell row at) table) ≡ column_at at table
unfolding column_at
column_there at table inside = sym (ap (λ (b : Bool). if b then Some (map (λ row. cell row at) table) else None) (lt-ltb at (column_count table) inside))
