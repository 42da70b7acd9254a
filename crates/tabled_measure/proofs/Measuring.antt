-- What is measured of texts, row by row.
use Rattle.std.proofs.Common.{◌≡◌, ℕ, ◌+◌, ◌<◌, ◌≤◌, max, fold, suc, Bool, true, false, not, cond, ltb, ◌==◌, if◌then◌else◌, Option, Some, None, List, [], ◌∷◌, map, length, take, get_or, unwrap_or, inl, inr, refl, sym, ap, subst, ◌∙◌, arith, Vec}
use Rattle.std.specs.Prelude.{slice_index}
use Rattle.std.specs.List.{All, list_all, position_or_len, reduce}
use Rattle.tabled_width.specs.Texts.{is_printable, Table, pieces, width_of_text}
use Rattle.tabled_cells.proofs.Fits.{greatest_bound}
use Rattle.tabled_cells.proofs.Printing.{one_piece, printable_width}
use Rattle.std.proofs.lemmas.List.{length-map, map-append, take_more, take_all, get_or-map, get_or_past}
use Rattle.std.proofs.lemmas.List.Splits.{length-slice_split}
use Rattle.std.proofs.lemmas.Bool.{cases_lt}
use Rattle.std.proofs.lemmas.Bool.Decides.{nat_tests}
use Rattle.std.proofs.lemmas.List.Sums.{fold_push}
use Rattle.std.specs.Str.{IsUtf8}
use Rattle.std.proofs.lemmas.Str.{chars-nil, IsUtf8-nil}
use Rattle.unicode_width.specs.Width.{str_width}
use Rattle.tabled_cells.specs.TextsBy.{texts_by}
use Rattle.tabled_measure.specs.Cells.{AreUtf8}
use Rattle.tabled_measure.specs.Sizes.{cell, column_count, column_widths, first_unequal, height_asked, row_height, row_heights, unequal_row, width_asked}
use Rattle.tabled_measure.proofs.EqualRows.{each-count}
use Rattle.tabled_measure.proofs.Widths.{count_widths, mapped_twice, width-at, widths-by}
use borrow.Author.Count.{below_more}
use Rattle.tabled_cells.specs.Placed.{greatest}

-- what the first of some things ask for at most, and one more
pub greatest_more : {X : Type 0} (f : X → ℕ) (xs : List X) (at old new : ℕ) (x none : X) → old ≡ greatest (map f (take at xs)) → at < length xs → get_or xs at none ≡ x → new ≡ max old (f x)
    → new ≡ greatest (map f (take (at + 1) xs))
greatest_more f xs at old new x none made within here is =
    is ∙ (λ i. max (made i) (f (sym here i))) ∙ sym (fold_push max 0 (map f (take at xs)) (f (get_or xs at none)))
    ∙ ap greatest (sym (ap (map f) (take_more xs at none within) ∙ map-append f (take at xs) (get_or xs at none ∷ [])))

-- the row at a place, by its cells
pub row_at : {B Z : Type 0} (bytes : B → List ℕ) (rows : List (Vec B Z)) (at : ℕ) (row : Vec B Z) → at < length rows → row ≡ get_or rows at row
    → get_or (texts_by bytes rows) at [] ≡ map bytes row.items
row_at bytes rows at row within read = get_or-map (λ v. map bytes v.items) rows at row [] within ∙ ap (λ v. map bytes v.items) (sym read)

-- how wide the first rows make a column
abbrev pub widened : {B Z : Type 0} → (B → List ℕ) → List (Vec B Z) → ℕ → ℕ → ℕ
widened bytes rows at col = greatest (map (λ row. width_asked (cell (map bytes row.items) col)) (take at rows))

-- once all rows have, the widths are those of the columns
pub widened_all : {B Z : Type 0} (bytes : B → List ℕ) (rows : List (Vec B Z)) (at : ℕ) (widths : List ℕ) → length rows ≤ at → length widths ≡ column_count (texts_by bytes rows)
    → ((col : ℕ) → col < length widths → get_or widths col 0 ≡ widened bytes rows at col) → widths ≡ column_widths (texts_by bytes rows)
widened_all bytes rows at widths all count made =
    widths-by widths (texts_by bytes rows) count
    (λ col inside.
    made col (omega arith) ∙ ap (λ some. greatest (map (λ row. width_asked (cell (map bytes row.items) col)) some)) (take_all at rows all)
    ∙ ap greatest (mapped_twice (λ row. width_asked (cell row col)) (λ row. map bytes row.items) rows))

-- the cell of a row at a place
pub cell_at : {B : Type 0} (bytes : B → List ℕ) (row : List B) (col : ℕ) (text : B) → col < length row → text ≡ get_or row col text → cell (map bytes row) col ≡ bytes text
cell_at bytes row col text within read = get_or-map bytes row col text [] within ∙ ap bytes (sym read)

-- past the end of a row stands the empty text, which asks for two spaces
pub nothing_asked : (row : List (List ℕ)) (col : ℕ) → length row ≤ col → 2 ≡ width_asked (cell row col)
unfolding width_asked str_width
nothing_asked row col past = ap (λ cs. max 0 (str_width false cs) + 2) (sym chars-nil) ∙ sym (ap width_asked (get_or_past row col [] past))

-- ---- columns and rows leave room for texts

pub column_room : (table : Table) (r c : ℕ) → r < length table → c < column_count table → width_asked (cell (get_or table r []) c) ≤ slice_index (column_widths table) c
column_room table r c row_within within = omega (arith, greatest_bound (λ row. width_asked (cell row c)) 0 table r [] row_within, width-at table c within)

pub row_room : (table : Table) (r c : ℕ) → r < length table → c < length (get_or table r []) → height_asked (cell (get_or table r []) c) ≤ slice_index (row_heights table) r
unfolding row_height
row_room table r c within inside =
    let here : slice_index (row_heights table) r ≡ row_height (get_or table r []) = get_or-map row_height table r [] 0 within in
    omega (arith, greatest_bound height_asked 0 (get_or table r []) c [] inside, here)

-- a width that leaves room for all texts of a column does for each
pub asks_within : (table : Table) (r c wide : ℕ) → c < length (column_widths table) → slice_index (column_widths table) c ≤ wide → 2 ≤ wide → width_asked (cell (get_or table r []) c) ≤ wide
asks_within table r c wide inside kept two = elim (cases_lt r (length table)) [
  | inl within ↦ omega (arith, column_room table r c within (omega (arith, inside, count_widths table)), kept)
  | inr past ↦ subst (λ row. width_asked (cell row c) ≤ wide) (sym (get_or_past table r [] past)) (let none = nothing_asked [] c (omega arith) in omega (arith, none, two))
]

-- in a row that is one line high each text is one line
pub one_line : (table : Table) (r c : ℕ) → r < length (row_heights table) → slice_index (row_heights table) r ≡ 1 → height_asked (cell (get_or table r []) c) ≡ 1
one_line table r c inside high = elim (cases_lt c (length (get_or table r []))) [
  | inl within ↦
      let room = row_room table r c (omega (arith, inside, length-map table row_height)) within in
      let some = length-slice_split (λ byte. byte == 10) (cell (get_or table r []) c) in
      omega (arith, room, some, high)
  | inr past ↦ ap height_asked (get_or_past (get_or table r []) c [] past)
]

-- the first row with another number of cells, by where it stands among the rows from `start` on
step : (start n count : ℕ) (same : Bool) (rest : Option ℕ) → (if ltb n count then Some (start + 1 + n) else None) ≡ rest
    → (if ltb (cond (not (not same)) (1 + n) 0) (suc count) then Some (start + cond (not (not same)) (1 + n) 0) else None) ≡ (if same then rest else Some start)
step start n count same rest is = grind (arith, nat_tests)

module _ {B Z : Type 0} (bytes : B → List ℕ) (columns : ℕ) where
  abbrev pub differs : Vec B Z → Bool
  differs row = not (length row.items == columns)

  pub first_found : (start : ℕ) (rows : List (Vec B Z)) → (if ltb (position_or_len differs rows) (length rows) then Some (start + position_or_len differs rows) else None) ≡ first_unequal columns start (texts_by bytes rows)
  first_found start [] = refl
  first_found start (row ∷ rows) =
      step start (position_or_len differs rows) (length rows) (length row.items == columns) _ (first_found (start + 1) rows)
      ∙ ap (λ n. if n == columns then first_unequal columns (start + 1) (texts_by bytes rows) else Some start) (sym (length-map row.items bytes))

-- ---- cells of one line each

fold_most : {X : Type 0} (f : X → ℕ) (bound first : ℕ) (xs : List X) → first ≤ bound → All (λ x. f x ≤ bound) xs → fold max first (map f xs) ≤ bound
fold_most f bound first [] least each = least
fold_most f bound first (x ∷ xs) least each =
    let here = each 0 x (omega arith) in
    fold_most f bound (max first (f x)) xs (omega (arith, least, here)) (λ k d inside. each (suc k) d (omega (arith, inside)))

-- the greatest number is no greater than all are
pub greatest_most : {X : Type 0} (f : X → ℕ) (bound : ℕ) (xs : List X) → All (λ x. f x ≤ bound) xs → greatest (map f xs) ≤ bound
greatest_most f bound xs each = fold_most f bound 0 xs (omega arith) each

-- a row that has some is one line high
pub one_high : (row : List (List ℕ)) → 0 < length row → All (λ text. height_asked text ≡ 1) row → 1 ≡ row_height row
unfolding row_height
one_high row some each =
    let most = greatest_most height_asked 1 row (λ k d within. omega (arith, each k d within)) in
    let least = greatest_bound height_asked 0 row 0 [] some in
    omega (arith, most, least, each 0 [] some)

-- ---- what holds of all texts

-- past its end a row has empty texts
row_holds : (P : List ℕ → Type 0) → P [] → (row : List (List ℕ)) (count : ℕ) → length row ≤ count → ((c : ℕ) → c < count → P (cell row c)) → (c : ℕ) → P (cell row c)
row_holds P empty row count within so c = elim (cases_lt c count) [
  | inl inside ↦ so c inside
  | inr past ↦ subst P (sym (get_or_past row c [] (omega (arith, past, within)))) empty
]

-- the rows so far, and all of them, where it holds of a row without texts
module _ (Q : List (List ℕ) → Type 0) where
  pub rows_more : (table : Table) (n : ℕ) (row : List (List ℕ)) → get_or table n [] ≡ row → ((r : ℕ) → r < n → Q (get_or table r [])) → Q row → (r : ℕ) → r < n + 1 → Q (get_or table r [])
  rows_more table n row here before is = below_more (λ r. Q (get_or table r [])) n before (subst Q (sym here) is)

-- in a table whose rows have as many cells each, all texts are of UTF-8 where those of its columns are
pub utf8_table : (table : Table) (n : ℕ) → length table ≤ n → unequal_row table ≡ None → ((r : ℕ) → r < n → (c : ℕ) → c < column_count table → IsUtf8 (cell (get_or table r []) c)) → AreUtf8 table
utf8_table table n all none so r = elim (cases_lt r (length table)) [
  | inl inside ↦ let even = each-count table none r inside in row_holds IsUtf8 IsUtf8-nil (get_or table r []) (column_count table) (omega (arith, even)) (so r (omega (arith, inside, all)))
  | inr past ↦ subst (λ row. (c : ℕ) → IsUtf8 (cell row c)) (sym (get_or_past table r [] past)) (λ c. IsUtf8-nil)
]

-- a printable text is as wide as it is long
pub printable_columns : (text : List ℕ) → list_all is_printable text ≡ true → length text ≡ greatest (map width_of_text (pieces text))
printable_columns text printable = sym (ap (λ lines. greatest (map width_of_text lines)) (one_piece text printable) ∙ omega (arith, printable_width text printable))

-- such a text is one line
pub printable_line : (text : List ℕ) → list_all is_printable text ≡ true → height_asked text ≡ 1
printable_line text printable = ap length (one_piece text printable)

-- the greatest of a walk is the greatest of the list
pub greatest_found : (ns : List ℕ) → unwrap_or (reduce max ns) 0 ≡ greatest ns
greatest_found [] = refl
greatest_found (n ∷ ns) = let same : n ≡ max 0 n = omega arith in ap (λ m. fold max m ns) same
