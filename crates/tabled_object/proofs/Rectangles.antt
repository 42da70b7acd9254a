-- The positions of some columns in some rows, one by one.
use Rattle.std.proofs.Common.{◌≡◌, ℕ, zero, suc, ◌+◌, ◌-◌, ◌<◌, ◌≤◌, List, [], ◌∷◌, ◌++◌, map, refl, ap, sym, ◌∙◌, arith}
use Rattle.std.specs.List.{range_with_len}
use Rattle.tabled_object.specs.declared.position.Position.{Position}
use Rattle.tabled_object.specs.Entities.{rectangle, position}

-- a count of numbers from a first one on: none, or that one and the others
pub none_of : (n a : ℕ) → n ≡ 0 → range_with_len a n ≡ []
none_of n a e = rw e refl

pub some_of : (n a : ℕ) → 0 < n → range_with_len a n ≡ a ∷ range_with_len (a + 1) (n - 1)
some_of zero a h = absurd (omega arith)
some_of (suc n) a h = ap (λ m. a ∷ range_with_len (a + 1) m) {x = n} {y = suc n - 1} (omega arith)

pub no_columns : (rows : List ℕ) → rectangle rows [] ≡ []
unfolding rectangle
no_columns [] = refl
no_columns (row ∷ rows) = no_columns rows

pub no_rows : (cols : List ℕ) → rectangle [] cols ≡ []
unfolding rectangle
no_rows cols = refl

pub next_row : (row : ℕ) (rows cols : List ℕ) → rectangle (row ∷ rows) cols ≡ map (λ col. position row col) cols ++ rectangle rows cols
unfolding rectangle
next_row row rows cols = refl

pub nothing_wide : (a b n m : ℕ) → m ≡ 0 → rectangle (range_with_len a n) (range_with_len b m) ≡ []
nothing_wide a b n m e = ap (λ cols. rectangle (range_with_len a n) cols) (none_of m b e) ∙ no_columns (range_with_len a n)

pub nothing_high : (a b n m : ℕ) → n ≡ 0 → rectangle (range_with_len a n) (range_with_len b m) ≡ []
nothing_high a b n m e = ap (λ rows. rectangle rows (range_with_len b m)) (none_of n a e) ∙ no_rows (range_with_len b m)

-- what is left: the rest of a row, and the rows after it
abbrev pub left_of : ℕ → ℕ → ℕ → ℕ → ℕ → ℕ → List Position
left_of row col cols_left rows_left first_col cols = map (λ c. position row c) (range_with_len col cols_left) ++ rectangle (range_with_len (row + 1) rows_left) (range_with_len first_col cols)

pub from_the_start : (row col n m : ℕ) → 0 < n → rectangle (range_with_len row n) (range_with_len col m) ≡ left_of row col m (n - 1) col m
from_the_start row col n m h = ap (λ rows. rectangle rows (range_with_len col m)) (some_of n row h) ∙ next_row row (range_with_len (row + 1) (n - 1)) (range_with_len col m)

pub nothing_left : (row col a b first cols : ℕ) → a ≡ 0 → b ≡ 0 → left_of row col a b first cols ≡ []
nothing_left row col a b first cols e f = rw (none_of a col e) (nothing_high (row + 1) first b cols f)

-- the next position, and what is left after it in this row
pub within_row : (row col a b first cols : ℕ) → 0 < a → left_of row col a b first cols ≡ position row col ∷ left_of row (col + 1) (a - 1) b first cols
within_row row col a b first cols h = rw (some_of a col h) refl

-- a row that is at its end goes on with the next
pub next_line : (row col b first cols : ℕ) → 0 < b → left_of row col 0 b first cols ≡ left_of (row + 1) first cols (b - 1) first cols
next_line row col b first cols h = from_the_start (row + 1) first b cols h

pub same_position : (cell : Position) (row col : ℕ) → cell.row ≡ row → cell.col ≡ col → cell ≡ position row col
same_position cell row col e f = λ i. record { row = e i; col = f i }

-- a row's last position, and then the next row
pub across_lines : (row col a b first cols : ℕ) (cell : Position) → cell ≡ position row col → 0 < a → a - 1 ≤ 0 → 0 < b → left_of row col a b first cols ≡ cell ∷ left_of (row + 1) first cols (b - 1) first cols
across_lines row col a b first cols cell e h l m =
    within_row row col a b first cols h
    ∙ ap (λ n. position row col ∷ left_of row (col + 1) n b first cols) {x = a - 1} {y = 0} (omega arith)
    ∙ (λ i. sym e i ∷ next_line row (col + 1) b first cols m i)
