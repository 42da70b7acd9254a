-- Listings as sets of cells.
use Rattle.std.proofs.Common.{◌≡◌, ℕ, zero, suc, ◌+◌, ◌==◌, ◌&&◌, ◌||◌, Bool, true, false, not, nat_lt, if◌then◌else◌, List, [], ◌∷◌, ◌++◌, slice_index_or, map, ◌↔◌, IsTrue, refl, sym, ap, subst, ◌∙◌, arith}
use Rattle.std.specs.List.{list_any, filter, range_with_len, Contains}
use Rattle.std.proofs.lemmas.List.Folds.{list_any-append, Any-from_list_any, list_any_at}
use Rattle.std.proofs.lemmas.Bool.Decides.{nat_tests}
use Rattle.std.specs.Cmp.{both_ways}
use mathlib.Core.Bool.{and-false, or-false}
use Rattle.tabled_object.specs.declared.entity.Entity.{Entity}
use Rattle.tabled_object.specs.declared.entity.Entity.TheVariants.{Global, Column, Row, Cell}
use Rattle.tabled_object.specs.declared.position.Position.{Position}
use Rattle.tabled_object.specs.Entities.{position, rectangle, below, cells_of, covers, is_inside}
use Rattle.tabled_object.specs.Listing.{covered, listed, all_cells, alone, chosen, difference, frame, intersection, is_outermost}

-- whether two positions are the same
abbrev pub is_here : Position → Position → Bool
is_here cell other = (cell.row == other.row) && (cell.col == other.col)

pub any_map : {A B : Type 0} (p : B → Bool) (f : A → B) (xs : List A) → list_any p (map f xs) ≡ list_any (λ x. p (f x)) xs
any_map p f [] = refl
any_map p f (x ∷ xs) = ap (λ b. p (f x) || b) (any_map p f xs)

any_and : {A : Type 0} (b : Bool) (p : A → Bool) (xs : List A) → list_any (λ x. b && p x) xs ≡ (b && list_any p xs)
any_and false p (x ∷ xs) = any_and false p xs
any_and b p xs = refl

or_and : (a b c : Bool) → ((a && c) || (b && c)) ≡ ((a || b) && c)
or_and true true true = refl
or_and true true false = refl
or_and true false true = refl
or_and true false false = refl
or_and false b c = refl

pub any_here : (cell : Position) (rows cols : List ℕ) → list_any (is_here cell) (rectangle rows cols) ≡ (list_any (λ row. cell.row == row) rows && list_any (λ col. cell.col == col) cols)
unfolding rectangle
any_here cell [] cols = refl
any_here cell (row ∷ rows) cols =
    list_any-append (is_here cell) (map (λ col. position row col) cols) (rectangle rows cols)
    ∙ (λ i. (any_map (is_here cell) (λ col. position row col) cols ∙ any_and (cell.row == row) (λ col. cell.col == col) cols) i || any_here cell rows cols i)
    ∙ or_and (cell.row == row) (list_any (λ r. cell.row == r) rows) (list_any (λ c. cell.col == c) cols)

first_of : (n a : ℕ) → false ≡ (not (nat_lt n a) && nat_lt n (a + 0))
first_of n a = grind (arith, nat_tests)

more_of : (n a count : ℕ) → ((n == a) || (not (nat_lt n (a + 1)) && nat_lt n (a + 1 + count))) ≡ (not (nat_lt n a) && nat_lt n (a + suc count))
more_of n a count = grind (arith, nat_tests)

any_from : (n a count : ℕ) → list_any (λ m. n == m) (range_with_len a count) ≡ (not (nat_lt n a) && nat_lt n (a + count))
any_from n a zero = first_of n a
any_from n a (suc count) = ap (λ b. (n == a) || b) (any_from n (a + 1) count) ∙ more_of n a count

from_zero : (n count : ℕ) → (not (nat_lt n 0) && nat_lt n (0 + count)) ≡ nat_lt n count
from_zero n count = grind (arith, nat_tests)

pub any_below : (n count : ℕ) → list_any (λ m. n == m) (below count) ≡ nat_lt n count
any_below n count = any_from n 0 count ∙ from_zero n count

row_inside : (a b c : Bool) → (a && b) ≡ true → (a && c) ≡ c
row_inside true b c h = refl
row_inside false b c h = absurd (cc)

col_inside : (a b c : Bool) → (a && b) ≡ true → (c && b) ≡ c
col_inside true b true h = h
col_inside true b false h = refl
col_inside false b c h = absurd (cc)

-- of the cells inside, those of an entity are those that it covers
pub any_named : (entity : Entity) (rows cols : ℕ) (cell : Position) → is_inside rows cols cell ≡ true → list_any (is_here cell) (cells_of entity rows cols) ≡ covers entity cell
any_named Global rows cols cell h = any_here cell (below rows) (below cols) ∙ (λ i. any_below cell.row rows i && any_below cell.col cols i) ∙ h
any_named (Column col) rows cols cell h = any_here cell (below rows) (col ∷ []) ∙ (λ i. any_below cell.row rows i && or-false (cell.col == col) i) ∙ row_inside (nat_lt cell.row rows) (nat_lt cell.col cols) (cell.col == col) h
any_named (Row row) rows cols cell h = any_here cell (row ∷ []) (below cols) ∙ (λ i. or-false (cell.row == row) i && any_below cell.col cols i) ∙ col_inside (nat_lt cell.row rows) (nat_lt cell.col cols) (cell.row == row) h
any_named (Cell row col) rows cols cell h = any_here cell (row ∷ []) (col ∷ []) ∙ (λ i. or-false (cell.row == row) i && or-false (cell.col == col) i)

pub here_itself : (cell : Position) → is_here cell cell ≡ true
here_itself cell = grind (arith, nat_tests)

rows_same : (a b c d : ℕ) → ((a == b) && (c == d)) ≡ true → (a ≡ b) × (c ≡ d)
rows_same a b c d h = (grind (arith, nat_tests), grind (arith, nat_tests))

pub same_here : (cell other : Position) → is_here cell other ≡ true → other ≡ cell
same_here cell other h = let e = rows_same cell.row other.row cell.col other.col h in λ i. record { row = sym e.0 i; col = sym e.1 i }

pub among_from_any : (cell : Position) (cells : List Position) → list_any (is_here cell) cells ≡ true → Contains cells cell
among_from_any cell cells h =
    let found = Any-from_list_any (is_here cell) cells h in
    let P : Position → Type 0 = λ x. slice_index_or cells found.0 x ≡ x in
    (found.0, found.2, subst P (same_here cell found.1 found.4) found.3)

pub any_from_among : (cell : Position) (cells : List Position) → Contains cells cell → list_any (is_here cell) cells ≡ true
any_from_among cell cells h = list_any_at (is_here cell) cells h.0 cell h.1 (ap (is_here cell) h.2 ∙ here_itself cell)

-- the cells inside a table that an entity names are those that it covers
pub named_where_covered : (entity : Entity) (rows cols : ℕ) (cell : Position) → is_inside rows cols cell ≡ true → Contains (cells_of entity rows cols) cell ↔ IsTrue (covers entity cell)
named_where_covered entity rows cols cell h = (
  (λ among. sym (any_named entity rows cols cell h) ∙ any_from_among cell (cells_of entity rows cols) among),
  (λ yes. among_from_any cell (cells_of entity rows cols) (any_named entity rows cols cell h ∙ yes)),
)

covered_too : (these those : List Entity) (cell : Position) → ((entity : Entity) → Contains these entity → Contains those entity) → covered these cell ≡ true → covered those cell ≡ true
covered_too these those cell among h =
    let found = Any-from_list_any (λ entity. covers entity cell) these h in
    let there = among found.1 (found.0, found.2, found.3) in
    list_any_at (λ entity. covers entity cell) those there.0 found.1 there.1 (ap (λ entity. covers entity cell) there.2 ∙ found.4)

-- what a listing covers, whatever its order and repeats
pub covered_alike : (these those : List Entity) (cell : Position) → ((entity : Entity) → Contains these entity ↔ Contains those entity) → covered these cell ≡ covered those cell
covered_alike these those cell among = both_ways (covered these cell) (covered those cell) (covered_too these those cell (λ entity. (among entity).0)) (covered_too those these cell (λ entity. (among entity).1))

inside_or : (a b c : Bool) → (a && (b || c)) ≡ ((a && b) || (a && c))
inside_or true b c = refl
inside_or false b c = refl

pub listed_in_a_row : (these those : List Entity) (rows cols : ℕ) (cell : Position) → listed (these ++ those) rows cols cell ≡ (listed these rows cols cell || listed those rows cols cell)
listed_in_a_row these those rows cols cell = ap (λ b. is_inside rows cols cell && b) (list_any-append (λ entity. covers entity cell) these those) ∙ inside_or (is_inside rows cols cell) (covered these cell) (covered those cell)

any_of_one : {A : Type 0} (p : A → Bool) (b : Bool) (x : A) (xs : List A) → list_any p (if b then (x ∷ xs) else xs) ≡ ((b && p x) || list_any p xs)
any_of_one p true x xs = refl
any_of_one p false x xs = refl

passing_one : (passes here among cell_passes : Bool) → (here ≡ true → passes ≡ cell_passes) → ((passes && here) || (cell_passes && among)) ≡ (cell_passes && (here || among))
passing_one passes true among true same = ap (λ b. (b && true) || among) (same refl)
passing_one passes true among false same = ap (λ b. (b && true) || false) (same refl)
passing_one passes false among cell_passes same = ap (λ b. b || (cell_passes && among)) (and-false passes)

-- of what passes a test, something is x, that alone is there, if that passes and is among them all
pub any_passing : {A : Type 0} (here test : A → Bool) (x : A) → ((y : A) → here y ≡ true → y ≡ x) → (ys : List A) → list_any here (filter test ys) ≡ (test x && list_any here ys)
any_passing here test x alone_there [] = sym (and-false (test x))
any_passing here test x alone_there (y ∷ ys) =
    any_of_one here (test y) y (filter test ys)
    ∙ ap (λ b. (test y && here y) || b) (any_passing here test x alone_there ys)
    ∙ passing_one (test y) (here y) (list_any here ys) (test x) (λ h. ap test (alone_there y h))

inside_last : (a b : Bool) → (b && a) ≡ (a && b)
inside_last true true = refl
inside_last true false = refl
inside_last false true = refl
inside_last false false = refl

-- cells of a table that pass a test cover those inside that pass it, and none outside
pub covered_chosen : (test : Position → Bool) (rows cols : ℕ) (cell : Position) → covered (chosen test (cells_of Global rows cols)) cell ≡ (is_inside rows cols cell && test cell)
covered_chosen test rows cols cell =
    let all = cells_of Global rows cols in
    let everywhere = any_here cell (below rows) (below cols) ∙ (λ i. any_below cell.row rows i && any_below cell.col cols i) in
    any_map (λ entity. covers entity cell) alone (filter test all) ∙ any_passing (is_here cell) test cell (same_here cell) all
    ∙ ap (λ b. test cell && b) everywhere ∙ inside_last (is_inside rows cols cell) (test cell)

inside_without : (a b c : Bool) → (a && (a && (b && not c))) ≡ ((a && b) && not (a && c))
inside_without true true true = refl
inside_without true true false = refl
inside_without true false c = refl
inside_without false b c = refl

pub listed_without : (these those : List Entity) (rows cols : ℕ) (cell : Position) → listed (difference these those rows cols) rows cols cell ≡ (listed these rows cols cell && not (listed those rows cols cell))
listed_without these those rows cols cell =
    ap (λ b. is_inside rows cols cell && b) (covered_chosen (λ other. covered these other && not (covered those other)) rows cols cell)
    ∙ inside_without (is_inside rows cols cell) (covered these cell) (covered those cell)

-- the frame of a table is its outermost cells
pub covered_by_frame : (rows cols : ℕ) (cell : Position) → covered (frame rows cols) cell ≡ (is_inside rows cols cell && is_outermost rows cols cell)
covered_by_frame rows cols cell = covered_chosen (is_outermost rows cols) rows cols cell

-- what two listings have in common is what both cover inside the table
pub covered_by_both : (these those : List Entity) (rows cols : ℕ) (cell : Position) → covered (intersection these those rows cols) cell ≡ (is_inside rows cols cell && (covered these cell && covered those cell))
covered_by_both these those rows cols cell = covered_chosen (λ other. covered these other && covered those other) rows cols cell

-- all cells without those of a listing are those inside the table that it does not cover
pub covered_by_inverse : (these : List Entity) (rows cols : ℕ) (cell : Position) → covered (difference all_cells these rows cols) cell ≡ (is_inside rows cols cell && not (covered these cell))
covered_by_inverse these rows cols cell = covered_chosen (λ other. covered all_cells other && not (covered these other)) rows cols cell
