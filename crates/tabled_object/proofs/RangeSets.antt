-- Ranges as sets of cells.
use Rattle.std.proofs.Common.{◌≡◌, ℕ, ◌==◌, ◌&&◌, Bool, true, false, nat_lt, map, refl, ap, ◌∙◌, arith, filter}
use Rattle.std.specs.List.{list_any}
use Rattle.std.specs.declared.ops.Bound.{Bound}
use Rattle.std.proofs.lemmas.Bool.Decides.{nat_tests}
use Rattle.tabled_object.specs.declared.entity.Entity.TheVariants.{Column, Row}
use Rattle.tabled_object.specs.declared.position.Position.{Position}
use Rattle.tabled_object.specs.Entities.{below, covers, is_inside, rectangle}
use Rattle.tabled_object.specs.Listing.{alone, listed}
use Rattle.tabled_object.specs.Ranges.{contains, contains_step, numbers_in, numbers_on_step, rows_in, columns_in, cells_in, rows_on_step, columns_on_step}
use Rattle.tabled_object.proofs.Sets.{any_map, any_below, any_here, any_passing}

only_it : (m n : ℕ) → (m == n) ≡ true → n ≡ m
only_it m n h = grind (arith, nat_tests)

any_number : (test : ℕ → Bool) (m count : ℕ) → list_any (λ n. m == n) (filter test (below count)) ≡ (test m && nat_lt m count)
any_number test m count = any_passing (λ n. m == n) test m (only_it m) (below count) ∙ ap (λ b. test m && b) (any_below m count)

in_a_row : (a b t : Bool) → ((a && b) && (t && a)) ≡ ((a && b) && t)
in_a_row true true true = refl
in_a_row true true false = refl
in_a_row true false t = refl
in_a_row false b t = refl

in_a_column : (a b t : Bool) → ((a && b) && (t && b)) ≡ ((a && b) && t)
in_a_column true true true = refl
in_a_column true true false = refl
in_a_column true false t = refl
in_a_column false b t = refl

in_both : (a b s t : Bool) → ((a && b) && ((s && a) && (t && b))) ≡ ((a && b) && (s && t))
in_both true true true true = refl
in_both true true true false = refl
in_both true true false t = refl
in_both true false s t = refl
in_both false b s t = refl

-- the rows whose numbers pass a test
rows_passing : (test : ℕ → Bool) (rows cols : ℕ) (cell : Position) → listed (map Row (filter test (below rows))) rows cols cell ≡ (is_inside rows cols cell && test cell.row)
rows_passing test rows cols cell =
    ap (λ b. is_inside rows cols cell && b) (any_map (λ entity. covers entity cell) Row (filter test (below rows)) ∙ any_number test cell.row rows)
    ∙ in_a_row (nat_lt cell.row rows) (nat_lt cell.col cols) (test cell.row)

columns_passing : (test : ℕ → Bool) (rows cols : ℕ) (cell : Position) → listed (map Column (filter test (below cols))) rows cols cell ≡ (is_inside rows cols cell && test cell.col)
columns_passing test rows cols cell =
    ap (λ b. is_inside rows cols cell && b) (any_map (λ entity. covers entity cell) Column (filter test (below cols)) ∙ any_number test cell.col cols)
    ∙ in_a_column (nat_lt cell.row rows) (nat_lt cell.col cols) (test cell.col)

-- ---- what ranges list

pub listed_rows : (start end : Bound ℕ) (rows cols : ℕ) (cell : Position) → listed (rows_in start end rows) rows cols cell ≡ (is_inside rows cols cell && contains start end cell.row)
unfolding numbers_in
listed_rows start end rows cols cell = rows_passing (contains start end) rows cols cell

pub listed_columns : (start end : Bound ℕ) (rows cols : ℕ) (cell : Position) → listed (columns_in start end cols) rows cols cell ≡ (is_inside rows cols cell && contains start end cell.col)
unfolding numbers_in
listed_columns start end rows cols cell = columns_passing (contains start end) rows cols cell

pub listed_row_steps : (start end : Bound ℕ) (step rows cols : ℕ) (cell : Position) → listed (rows_on_step start end step rows) rows cols cell ≡ (is_inside rows cols cell && contains_step start end step cell.row)
unfolding numbers_on_step
listed_row_steps start end step rows cols cell = rows_passing (contains_step start end step) rows cols cell

pub listed_column_steps : (start end : Bound ℕ) (step rows cols : ℕ) (cell : Position) → listed (columns_on_step start end step cols) rows cols cell ≡ (is_inside rows cols cell && contains_step start end step cell.col)
unfolding numbers_on_step
listed_column_steps start end step rows cols cell = columns_passing (contains_step start end step) rows cols cell

pub listed_segment : (first_row last_row first_col last_col : Bound ℕ) (rows cols : ℕ) (cell : Position)
    → listed (cells_in first_row last_row first_col last_col rows cols) rows cols cell ≡ (is_inside rows cols cell && (contains first_row last_row cell.row && contains first_col last_col cell.col))
unfolding numbers_in
listed_segment first_row last_row first_col last_col rows cols cell =
    let these = numbers_in first_row last_row rows in
    let those = numbers_in first_col last_col cols in
    ap (λ b. is_inside rows cols cell && b)
    (any_map (λ entity. covers entity cell) alone (rectangle these those) ∙ any_here cell these those
    ∙ (λ i. any_number (contains first_row last_row) cell.row rows i && any_number (contains first_col last_col) cell.col cols i))
    ∙ in_both (nat_lt cell.row rows) (nat_lt cell.col cols) (contains first_row last_row cell.row) (contains first_col last_col cell.col)
