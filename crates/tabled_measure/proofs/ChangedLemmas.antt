-- Rows of other texts, as many in each.
use Rattle.std.proofs.Common.{◌≡◌, ℕ, ◌<◌, ◌≤◌, get_or, ⊎_elim, subst, arith, None, List, [], ◌∷◌, map, length, refl, sym, ap, ◌∙◌}
use Rattle.std.proofs.lemmas.Bool.{cases_lt}
use Rattle.std.proofs.lemmas.List.{length-map, get_or-map, get_or_past}
use Rattle.std.proofs.lemmas.List.Elements.{All-from_get_or}
use Rattle.std.proofs.lemmas.List.FromFn.{get_or-map-range_with_len, length-range_with_len, fill_by_all}
use Rattle.tabled_object.specs.Entities.{below}
use Rattle.tabled_width.specs.Texts.{Table}
use Rattle.tabled_measure.specs.Changed.{row_changed, cells_changed}
use Rattle.tabled_measure.specs.Sizes.{column_count, unequal_row}
use Rattle.tabled_measure.proofs.EqualRows.{HasCells, each-count, even-by}
use Rattle.tabled_measure.proofs.Widths.{maps-by}

-- ---- places of what is changed

pub length_row : (change : ℕ → List ℕ → List ℕ) (row : List (List ℕ)) → length (row_changed change row) ≡ length row
unfolding row_changed
length_row change row = length-map (below (length row)) _ ∙ length-range_with_len 0 (length row)

pub place_at : (change : ℕ → List ℕ → List ℕ) (row : List (List ℕ)) (col : ℕ) → col < length row → get_or (row_changed change row) col [] ≡ change col (get_or row col [])
unfolding row_changed
place_at change row col inside = get_or-map-range_with_len (λ c. change c (get_or row c [])) 0 (length row) col col [] inside (omega arith)

pub length_cells : (change : ℕ → ℕ → List ℕ → List ℕ) (table : Table) → length (cells_changed change table) ≡ length table
unfolding cells_changed
length_cells change table = length-map (below (length table)) _ ∙ length-range_with_len 0 (length table)

pub cells_at : (change : ℕ → ℕ → List ℕ → List ℕ) (table : Table) (row : ℕ) → row < length table → get_or (cells_changed change table) row [] ≡ row_changed (change row) (get_or table row [])
unfolding cells_changed
cells_at change table row inside = get_or-map-range_with_len (λ r. row_changed (change r) (get_or table r [])) 0 (length table) row row [] inside (omega arith)

-- cells of which each stays
row_stays : (change : ℕ → List ℕ → List ℕ) (row : List (List ℕ)) → ((col : ℕ) → col < length row → change col (get_or row col []) ≡ get_or row col []) → row_changed change row ≡ row
unfolding row_changed
row_stays change row stay = sym (fill_by_all (λ col. change col (get_or row col [])) row (length row) [] refl (λ col inside. sym (stay col inside)))

pub cells_stay : (change : ℕ → ℕ → List ℕ → List ℕ) (table : Table)
    → ((row col : ℕ) → row < length table → col < length (get_or table row []) → change row col (get_or (get_or table row []) col []) ≡ get_or (get_or table row []) col []) → cells_changed change table ≡ table
unfolding cells_changed
cells_stay change table stay =
    sym (fill_by_all (λ row. row_changed (change row) (get_or table row [])) table (length table) [] refl
    (λ row inside. sym (row_stays (change row) (get_or table row []) (λ col within. stay row col inside within))))

-- what is made of each cell, and holds of the empty text, holds of what each cell says then
module _ (P : List ℕ → Type 0) (nothing : P []) where
  in_row : (change : ℕ → List ℕ → List ℕ) (row : List (List ℕ)) (col : ℕ) → P (change col (get_or row col [])) → P (get_or (row_changed change row) col [])
  in_row change row col made =
      ⊎_elim
      (λ (inside : col < length row). subst P (sym (place_at change row col inside)) made)
      (λ (past : length row ≤ col). subst P (sym (get_or_past (row_changed change row) col [] (omega (arith, past, length_row change row)))) nothing)
      (cases_lt col (length row))

  pub in_cells : (change : ℕ → ℕ → List ℕ → List ℕ) (table : Table) (row col : ℕ) → P (change row col (get_or (get_or table row []) col [])) → P (get_or (get_or (cells_changed change table) row []) col [])
  in_cells change table row col made =
      ⊎_elim
      (λ (inside : row < length table). subst (λ cells. P (get_or cells col [])) (sym (cells_at change table row inside)) (in_row (change row) (get_or table row []) col made))
      (λ (past : length table ≤ row).
      subst (λ cells. P (get_or cells col [])) (sym (get_or_past (cells_changed change table) row [] (omega (arith, past, length_cells change table))))
      (subst P (sym (get_or_past [] col [] (omega arith))) nothing))
      (cases_lt row (length table))

-- ---- as many cells as before

pub counts_stay : (change : ℕ → ℕ → List ℕ → List ℕ) (table : Table) → map length (cells_changed change table) ≡ map length table
counts_stay change table =
    maps-by length length 0 (cells_changed change table) table [] [] (length_cells change table)
    (λ row inside. ap length (cells_at change table row inside) ∙ length_row (change row) (get_or table row []))

columns_by : (table : Table) → column_count table ≡ get_or (map length table) 0 0
columns_by [] = refl
columns_by (row ∷ rows) = refl

module _ (old new : Table) (same : map length new ≡ map length old) where
  pub same_columns : column_count new ≡ column_count old
  same_columns = columns_by new ∙ ap (λ counts. get_or counts 0 0) same ∙ sym (columns_by old)

  pub same_unequal : unequal_row old ≡ None → unequal_row new ≡ None
  same_unequal none =
      even-by (column_count old) new (All-from_get_or (HasCells (column_count old)) new [] (λ row within.
      let rows : length new ≡ length old = sym (length-map new length) ∙ ap length same ∙ length-map old length in
      let there : row < length old = omega (arith, within, rows) in
      sym (get_or-map length new row [] 0 within) ∙ ap (λ counts. get_or counts row 0) same ∙ get_or-map length old row [] 0 there ∙ each-count old none row there))
