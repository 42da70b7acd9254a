-- Rows that have as many cells as the first one.
use Rattle.std.proofs.Common.{◌≡◌, ◌==◌, ℕ, ◌+◌, ◌<◌, zero, suc, Bool, true, false, if◌then◌else◌, List, [], ◌∷◌, length, get_or, refl, sym, ap, ◌∙◌, arith, Some, None}
use Rattle.std.specs.List.{All}
use Rattle.std.proofs.lemmas.Bool.Decides.{nat_tests}
use Rattle.std.proofs.lemmas.List.Elements.{All-from_get_or, All-head, All-tail}
use Rattle.tabled_width.specs.Texts.{Table}
use Rattle.tabled_measure.specs.Sizes.{column_count, first_unequal, unequal_row}

pub same_count : (n m : ℕ) → (n == m) ≡ true → n ≡ m
same_count n m e = grind (arith, nat_tests)

equal_by : (columns start : ℕ) (cells : List (List ℕ)) (rows : Table) (same : Bool) → (length cells == columns) ≡ same
    → first_unequal columns start (cells ∷ rows) ≡ None → (length cells ≡ columns) × (first_unequal columns (start + 1) rows ≡ None)
equal_by columns start cells rows true e none = (same_count (length cells) columns e, sym (ap (λ b. if b then first_unequal columns (start + 1) rows else Some start) e) ∙ none)
equal_by columns start cells rows false e none = absurd (let no = sym (ap (λ b. if b then first_unequal columns (start + 1) rows else Some start) e) ∙ none in cc)

pub all_equal : (columns start : ℕ) (rows : Table) → first_unequal columns start rows ≡ None → (r : ℕ) → r < length rows → length (get_or rows r []) ≡ columns
all_equal columns start [] none r within = absurd (omega arith)
all_equal columns start (cells ∷ rows) none zero within = (equal_by columns start cells rows _ refl none).0
all_equal columns start (cells ∷ rows) none (suc r) within = all_equal columns (start + 1) rows (equal_by columns start cells rows _ refl none).1 r (omega arith)

pub each-count : (table : Table) → unequal_row table ≡ None → (r : ℕ) → r < length table → length (get_or table r []) ≡ column_count table
each-count table none r within = all_equal (column_count table) 0 table none r within

-- ---- rows each of which has so many cells

abbrev pub HasCells : ℕ → List (List ℕ) → Type 0
HasCells columns row = length row ≡ columns

abbrev pub HaveCells : ℕ → Table → Type 0
HaveCells columns table = All (HasCells columns) table

pub have-cells : (table : Table) → unequal_row table ≡ None → HaveCells (column_count table) table
have-cells table none = All-from_get_or (HasCells (column_count table)) table [] (each-count table none)

-- they are the cells of the first one, where there is one
pub count-by : (columns : ℕ) (table : Table) → 0 < length table → HaveCells columns table → column_count table ≡ columns
count-by columns [] some each = absurd (omega (arith, some))
count-by columns (cells ∷ rows) some each = All-head (HasCells columns) cells rows each

none-by : (columns start : ℕ) (rows : Table) → HaveCells columns rows → first_unequal columns start rows ≡ None
none-by columns start [] each = refl
none-by columns start (cells ∷ rows) each =
    let here = All-head (HasCells columns) cells rows each in
    let same : (length cells == columns) ≡ true = grind (arith, nat_tests) in
    ap (λ b. if b then first_unequal columns (start + 1) rows else Some start) same ∙ none-by columns (start + 1) rows (All-tail (HasCells columns) cells rows each)

-- so they are equal
pub even-by : (columns : ℕ) (table : Table) → HaveCells columns table → unequal_row table ≡ None
even-by columns [] each = refl
even-by columns (cells ∷ rows) each =
    ap (λ n. first_unequal n 0 (cells ∷ rows)) (count-by columns (cells ∷ rows) (omega arith) each) ∙ none-by columns 0 (cells ∷ rows) each
