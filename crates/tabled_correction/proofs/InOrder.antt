-- Cells in row order.
use Rattle.std.proofs.Common.{◌≡◌, ℕ, suc, zero, ◌+◌, ◌<◌, ◌&&◌, ◌||◌, Bool, true, false, cond, Option, Some, None, List, [], ◌∷◌, ◌++◌, map, refl, sym, ap, subst, ◌∙◌, arith, tests, filter, Less}
use Rattle.std.specs.List.{range_with_len, AllByRecursion}
use Rattle.std.specs.List.Sorted.{IsStrictlySortedBy}
use Rattle.std.specs.Map.{keys_of}
use Rattle.std.specs.FinMap as finmap
use Rattle.std.proofs.lemmas.List.Kept.{IsStrictlySortedBy-filter}
use Rattle.std.proofs.lemmas.Bool.Decides.{nat_tests}
use Rattle.tabled_object.specs.declared.entity.Entity.TheVariants.{Global}
use Rattle.tabled_object.specs.declared.position.Position.{Position}
use Rattle.tabled_object.specs.contracts.position.PositionOrd.TheImpl.Laws.{total-law}
use Rattle.tabled_object.specs.Entities.{position, rectangle, below, cells_of, is_inside}
use Rattle.tabled_object.proofs.Sets.{any_here, any_below, any_passing, is_here, same_here}
use Rattle.tabled_kept.specs.Table.{table}
use Rattle.tabled_kept.proofs.Ascending.{entries-table}
use Rattle.tabled_layout.specs.Spans.{position_cmp, same_position}
use Rattle.tabled_layout.proofs.SpanLemmas.{is_same_position, positions_apart}
use Rattle.tabled_correction.specs.Covered.{has, AreThose}

-- ---- lists in order with the same cells are one

marked : List Position → List (Position × ℕ)
marked cells = map (λ cell. (cell, 0)) cells

keys_marked : (cells : List Position) → keys_of (marked cells) ≡ cells
unfolding marked
keys_marked [] = refl
keys_marked (cell ∷ cells) = ap (λ rest. cell ∷ rest) (keys_marked cells)

mark_of : Bool → Option ℕ
mark_of true = Some 0
mark_of false = None

find_marked : (cell : Position) (cells : List Position) → finmap.find position_cmp cell (marked cells) ≡ mark_of (has cells cell)
unfolding marked mark_of
find_marked cell [] = refl
find_marked cell (other ∷ others) =
    (λ i. cond (is_same_position cell other i) (Some 0) (find_marked cell others i)) ∙ by (same_position cell other) (has others cell)
  where
    by : (b c : Bool) → cond b (Some 0) (mark_of c) ≡ mark_of (b || c)
    by true c = refl
    by false c = refl

from_marked : (a b : List Position) → marked a ≡ marked b → a ≡ b
from_marked a b same = sym (keys_marked a) ∙ ap keys_of same ∙ keys_marked b

pub one_list : (a b : List Position) → IsStrictlySortedBy position_cmp a → IsStrictlySortedBy position_cmp b → ((cell : Position) → has a cell ≡ has b cell) → a ≡ b
one_list a b a_sorted b_sorted same =
    from_marked a b (
    sym (entries-table total-law (marked a) (subst (IsStrictlySortedBy position_cmp) (sym (keys_marked a)) a_sorted))
    ∙ ap finmap.entries (finmap.same_map total-law positions_apart (table position_cmp (marked a)) (table position_cmp (marked b)) (λ cell.
    finmap.get-from_entries total-law (marked a) cell ∙ find_marked cell a ∙ ap mark_of (same cell)
    ∙ sym (finmap.get-from_entries total-law (marked b) cell ∙ find_marked cell b)))
    ∙ entries-table total-law (marked b) (subst (IsStrictlySortedBy position_cmp) (sym (keys_marked b)) b_sorted)
    )

-- ---- the cells of a table are in order

same_row : (r a b : ℕ) → a < b → position_cmp (position r a) (position r b) ≡ Less
same_row r a b h = grind (arith, tests, nat_tests)

next_row : (r s a b : ℕ) → r < s → position_cmp (position r a) (position s b) ≡ Less
next_row r s a b h = grind (arith, tests, nat_tests)

-- one cell is before all of a list
IsBefore : Position → List Position → Type 0
IsBefore cell cells = AllByRecursion (λ other. position_cmp cell other ≡ Less) cells

before_both : (cell : Position) (xs ys : List Position) → IsBefore cell xs → IsBefore cell ys → IsBefore cell (xs ++ ys)
unfolding IsBefore
before_both cell [] ys before_xs before_ys = before_ys
before_both cell (x ∷ xs) ys before_xs before_ys = (before_xs.0, before_both cell xs ys before_xs.1 before_ys)

-- a cell is before those at its right
before_row : (r c from count : ℕ) → c < from → IsBefore (position r c) (map (position r) (range_with_len from count))
unfolding IsBefore
before_row r c from zero h = tt
before_row r c from (suc count) h = (same_row r c from h, before_row r c (from + 1) count (omega (arith, h)))

-- and before those of the rows below
before_line : (r s c from count : ℕ) → r < s → IsBefore (position r c) (map (position s) (range_with_len from count))
unfolding IsBefore
before_line r s c from zero h = tt
before_line r s c from (suc count) h = (next_row r s c from h, before_line r s c (from + 1) count h)

before_rows : (r c from count cols : ℕ) → r < from → IsBefore (position r c) (rectangle (range_with_len from count) (below cols))
unfolding IsBefore rectangle
before_rows r c from zero cols h = tt
before_rows r c from (suc count) cols h =
    before_both (position r c) (map (position from) (below cols)) (rectangle (range_with_len (from + 1) count) (below cols))
    (before_line r from c 0 cols h) (before_rows r c (from + 1) count cols (omega (arith, h)))

-- one row before the rows below
row_then : (r from count : ℕ) (rest : List Position) → ((c : ℕ) → IsBefore (position r c) rest) → IsStrictlySortedBy position_cmp rest → IsStrictlySortedBy position_cmp (map (position r) (range_with_len from count) ++ rest)
unfolding IsStrictlySortedBy IsBefore
row_then r from zero rest before sorted = sorted
row_then r from (suc count) rest before sorted = (
  before_both (position r from) (map (position r) (range_with_len (from + 1) count)) rest (before_row r from (from + 1) count (omega arith)) (before from),
  row_then r (from + 1) count rest before sorted,
)

rows_in_order : (from count cols : ℕ) → IsStrictlySortedBy position_cmp (rectangle (range_with_len from count) (below cols))
unfolding rectangle IsStrictlySortedBy
rows_in_order from zero cols = tt
rows_in_order from (suc count) cols =
    row_then from 0 cols (rectangle (range_with_len (from + 1) count) (below cols)) (λ c. before_rows from c (from + 1) count cols (omega arith)) (rows_in_order (from + 1) count cols)

-- a set of those cells of a table that pass lists them in row order
pub those_in_order : (cells : List Position) (shape : ℕ × ℕ) (test : Position → Bool) → IsStrictlySortedBy position_cmp cells → AreThose cells shape test → cells ≡ filter test (cells_of Global shape.0 shape.1)
those_in_order cells shape test sorted those =
    one_list cells (filter test (cells_of Global shape.0 shape.1)) sorted (IsStrictlySortedBy-filter position_cmp test (cells_of Global shape.0 shape.1) (rows_in_order 0 shape.0 shape.1))
    (λ cell. those cell ∙ swap (is_inside shape.0 shape.1 cell) (test cell)
    ∙ ap (λ b. test cell && b) (sym (any_here cell (below shape.0) (below shape.1) ∙ (λ i. any_below cell.row shape.0 i && any_below cell.col shape.1 i)))
    ∙ sym (any_passing (is_here cell) test cell (same_here cell) (cells_of Global shape.0 shape.1)))
  where
    swap : (x y : Bool) → (x && y) ≡ (y && x)
    swap true true = refl
    swap true false = refl
    swap false true = refl
    swap false false = refl
