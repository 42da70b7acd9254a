-- Tables with a row more or less.
use Rattle.std.proofs.Common.{◌≡◌, ℕ, ◌<◌, suc, max, fold, true, None, List, [], ◌∷◌, map, length, take, drop, get_or, refl, sym, ap, ◌∙◌, arith, take-append-drop, length-append}
use Rattle.std.specs.List.{insert, remove}
use Rattle.std.proofs.lemmas.Grind.{fold-append}
use Rattle.std.proofs.lemmas.List.Elements.{All-append, All-cons, All-drop, All-take, All-from_get_or}
use Rattle.std.proofs.lemmas.List.FromFn.{get_or-map-range_with_len, length-map-range_with_len}
use Rattle.std.proofs.lemmas.Bool.Decides.{nat_tests}
use Rattle.tabled_cells.specs.Placed.{greatest}
use Rattle.tabled_width.specs.Texts.{Table}
use Rattle.tabled_rows.proofs.RowLemmas.{insert-map}
use Rattle.tabled_measure.specs.Edited.{goes_in, widths_with}
use Rattle.tabled_measure.specs.Sizes.{cell, column_count, column_width, column_widths, unequal_row, width_asked}
use Rattle.tabled_measure.proofs.EqualRows.{HasCells, HaveCells, count-by, each-count, even-by, have-cells}
use Rattle.tabled_measure.proofs.Widths.{width-at, widths-by}

-- ---- as many cells in each row

module _ (table : Table) (at : ℕ) (row : List (List ℕ)) (none : unequal_row table ≡ None) (fits : goes_in row table ≡ true) where
  each-row : (r : ℕ) → r < length table → length (get_or table r []) ≡ length row
  each-row r within = let count = each-count table none r within in grind (arith, nat_tests)

  each-insert : HaveCells (length row) (insert table at row)
  each-insert =
      let Has = HasCells (length row) in
      let each = All-from_get_or Has table [] each-row in
      All-append Has (take at table) (row ∷ drop at table) (All-take Has at table each) (All-cons Has row (drop at table) refl (All-drop Has at table each))

  pub unequal-insert : unequal_row (insert table at row) ≡ None
  unequal-insert = even-by (length row) (insert table at row) each-insert

  columns-insert : column_count (insert table at row) ≡ length row
  columns-insert = count-by (length row) (insert table at row) (omega (arith, length-append (take at table) (row ∷ drop at table))) each-insert

pub unequal-remove : (table : Table) (at : ℕ) → unequal_row table ≡ None → unequal_row (remove table at) ≡ None
unequal-remove table at none =
    let Has = HasCells (column_count table) in
    let each = have-cells table none in
    even-by (column_count table) (remove table at) (All-append Has (take at table) (drop (suc at) table) (All-take Has at table each) (All-drop Has (suc at) table each))

-- ---- how wide and how high

fold-start : (a n : ℕ) (ns : List ℕ) → fold max (max a n) ns ≡ max (fold max a ns) n
fold-start a n [] = refl
fold-start a n (m ∷ ns) = ap (λ k. fold max k ns) (let moved : max (max a n) m ≡ max (max a m) n = omega arith in moved) ∙ fold-start (max a m) n ns

pub greatest-insert : (ns : List ℕ) (at n : ℕ) → greatest (insert ns at n) ≡ max (greatest ns) n
greatest-insert ns at n =
    fold-append max 0 (take at ns) (n ∷ drop at ns)
    ∙ fold-start (fold max 0 (take at ns)) n (drop at ns)
    ∙ ap (λ k. max k n) (sym (fold-append max 0 (take at ns) (drop at ns)) ∙ ap greatest (take-append-drop at ns))

width-insert : (table : Table) (at : ℕ) (row : List (List ℕ)) (col : ℕ) → column_width (insert table at row) col ≡ max (column_width table col) (width_asked (cell row col))
width-insert table at row col =
    let asked : List (List ℕ) → ℕ = λ cells. width_asked (cell cells col) in
    ap greatest (insert-map asked table at row) ∙ greatest-insert (map asked table) at (asked row)

-- how wide a column is that may be there
width-of : (table : Table) (row : List (List ℕ)) (col : ℕ) → goes_in row table ≡ true → col < length row → get_or (column_widths table) col 0 ≡ column_width table col
unfolding column_widths
width-of [] row col fits inside = refl
width-of (cells ∷ rows) row col fits inside = width-at (cells ∷ rows) col (grind (arith, nat_tests))

pub widths-insert : (table : Table) (at : ℕ) (row : List (List ℕ)) → unequal_row table ≡ None → goes_in row table ≡ true → widths_with (column_widths table) row ≡ column_widths (insert table at row)
widths-insert table at row none fits =
    let count = columns-insert table at row none fits in
    let wider : ℕ → ℕ = λ col. max (get_or (column_widths table) col 0) (width_asked (cell row col)) in
    widths-by (widths_with (column_widths table) row) (insert table at row) (length-map-range_with_len wider 0 (length row) ∙ sym count)
    (λ col inside.
    let within : col < length row = omega (arith, inside, count) in
    get_or-map-range_with_len wider 0 (length row) col col 0 within (omega arith)
    ∙ ap (λ n. max n (width_asked (cell row col))) (width-of table row col fits within)
    ∙ sym (width-insert table at row col))
