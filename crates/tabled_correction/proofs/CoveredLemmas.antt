-- Sets of covered cells.
use Rattle.std.proofs.Common.{◌≡◌, ℕ, ◌+◌, ◌<◌, ◌≤◌, ◌==◌, ◌&&◌, ◌||◌, Bool, true, false, cond, nat_lt, List, [], ◌∷◌, refl, sym, ap, subst, ◌∙◌, arith, nat_le, max}
use Rattle.std.specs.List.{list_any}
use Rattle.std.specs.Cmp.{eq_by_cmp_equiv}
use Rattle.std.specs.FinMap.{entries}
use Rattle.std.specs.List.Sorted.{IsStrictlySortedBy}
use Rattle.std.specs.Map.{keys_of}
use Rattle.std.specs.BTreeMap.{is_at}
use Rattle.std.specs.BTreeSet.{BTreeSet, Updates, contains}
use Rattle.std.proofs.lemmas.Bool.Decides.{nat_tests}
use mathlib.Core.Bool.{or-true}
use Rattle.std.proofs.lemmas.Bool.{or_right}
use Rattle.tabled_object.specs.declared.position.Position.{Position}
use Rattle.tabled_object.specs.contracts.position.PositionOrd.TheImpl.Laws.{total-law}
use Rattle.tabled_object.specs.Entities.{is_inside}
use Rattle.tabled_layout.specs.Spans.{SpanEvent, position_cmp, same_position}
use Rattle.tabled_kept.specs.Table.{table}
use Rattle.tabled_layout.proofs.SpanLemmas.{is_same_position, entries_are}
use Rattle.tabled_correction.specs.Covered.{has, covered_by, AreThose}

-- ---- stretches

-- ---- cells put into a set

here : (cell other : Position) → is_at (position_cmp cell) other ≡ same_position cell other
here cell other = is_same_position cell other

either_way : (cell other : Position) → is_at (position_cmp other) cell ≡ same_position cell other
either_way cell other = (eq_by_cmp_equiv total-law).symm other cell ∙ is_same_position cell other

pub set_has : (set : BTreeSet Position) (cell : Position) → contains position_cmp set cell ≡ has set.keys cell
set_has set cell = λ i. list_any (λ other. here cell other i) set.keys

chosen : (b c : Bool) → cond b true c ≡ (b || c)
chosen true c = refl
chosen false c = refl

pub put_in : (old new : BTreeSet Position) (other : Position) → Updates position_cmp old new other true → (cell : Position) → has new.keys cell ≡ (same_position cell other || has old.keys cell)
put_in old new other updates cell =
    sym (set_has new cell) ∙ updates.0 cell ∙ (λ i. cond (either_way cell other i) true (set_has old cell i)) ∙ chosen (same_position cell other) (has old.keys cell)

-- one cell more of a row
pub one_cell_more : (row start col r c : ℕ) (old : Bool) → start ≤ col → (((r == row) && (c == col)) || (old || ((r == row) && (nat_le start c && nat_lt c col)))) ≡ (old || ((r == row) && (nat_le start c && nat_lt c (col + 1))))
one_cell_more row start col r c old h = by (r == row) (c == col) old (nat_le start c) (nat_lt c col) (nat_lt c (col + 1)) (grind (arith, nat_tests))
  where
    by : (same here old from below then : Bool) → (here || (from && below)) ≡ (from && then) → ((same && here) || (old || (same && (from && below)))) ≡ (old || (same && (from && then)))
    by true here true from below then e = or-true here
    by true here false from below then e = e
    by false here old from below then e = refl

-- one row more of a rectangle
pub one_row_more : (start row r : ℕ) (old cols : Bool) → start ≤ row → ((old || ((nat_le start r && nat_lt r row) && cols)) || ((r == row) && cols)) ≡ (old || ((nat_le start r && nat_lt r (row + 1)) && cols))
one_row_more start row r old cols h = by (r == row) old cols (nat_le start r && nat_lt r row) (nat_le start r && nat_lt r (row + 1)) (grind (arith, nat_tests))
  where
    by : (here old cols before then : Bool) → (before || here) ≡ then → ((old || (before && cols)) || (here && cols)) ≡ (old || (then && cols))
    by here true cols before then e = refl
    by here false true before then e = swap before here then e
      where
        swap : (before here then : Bool) → (before || here) ≡ then → ((before && true) || (here && true)) ≡ (then && true)
        swap true here then e = ap (λ b. b && true) e
        swap false true then e = ap (λ b. b && true) e
        swap false false then e = ap (λ b. b && true) e
    by here false false before then e = none before here then
      where
        none : (before here then : Bool) → ((before && false) || (here && false)) ≡ (then && false)
        none true true true = refl
        none true true false = refl
        none true false true = refl
        none true false false = refl
        none false true true = refl
        none false true false = refl
        none false false true = refl
        none false false false = refl

-- all numbers of an interval
pub all_of : (start end at n : ℕ) → at ≤ max start end → end ≤ at → (nat_le start n && nat_lt n at) ≡ (nat_le start n && nat_lt n end)
all_of start end at n most past = grind (arith, nat_tests)

-- ---- spans, one after another

-- the cells of one span were added
pub span_added : (shape : ℕ × ℕ) (test : SpanEvent → Position → Bool) (all left rest : List SpanEvent) (span : SpanEvent) (before after : List Position) (added : Position → Bool)
    → ((cell : Position) → (has before cell || (is_inside shape.0 shape.1 cell && covered_by test left cell)) ≡ (is_inside shape.0 shape.1 cell && covered_by test all cell))
    → left ≡ span ∷ rest
    → ((cell : Position) → has after cell ≡ (has before cell || added cell))
    → ((cell : Position) → added cell ≡ (is_inside shape.0 shape.1 cell && test span cell))
    → (cell : Position) → (has after cell || (is_inside shape.0 shape.1 cell && covered_by test rest cell)) ≡ (is_inside shape.0 shape.1 cell && covered_by test all cell)
span_added shape test all left rest span before after added so_far next put is cell =
    (λ i. (put cell ∙ ap (λ b. has before cell || b) (is cell)) i || (is_inside shape.0 shape.1 cell && covered_by test rest cell))
    ∙ joined (has before cell) (is_inside shape.0 shape.1 cell) (test span cell) (covered_by test rest cell)
    ∙ ap (λ spans. has before cell || (is_inside shape.0 shape.1 cell && covered_by test spans cell)) (sym next) ∙ so_far cell
  where
    joined : (a b x y : Bool) → ((a || (b && x)) || (b && y)) ≡ (a || (b && (x || y)))
    joined true b x y = refl
    joined false true x y = refl
    joined false false x y = refl

-- no span is to come
pub all_added : (shape : ℕ × ℕ) (test : SpanEvent → Position → Bool) (all left : List SpanEvent) (cells : List Position)
    → ((cell : Position) → (has cells cell || (is_inside shape.0 shape.1 cell && covered_by test left cell)) ≡ (is_inside shape.0 shape.1 cell && covered_by test all cell))
    → left ≡ [] → AreThose cells shape (covered_by test all)
all_added shape test all left cells so_far done cell =
    sym (none (has cells cell) (is_inside shape.0 shape.1 cell)) ∙ ap (λ spans. has cells cell || (is_inside shape.0 shape.1 cell && covered_by test spans cell)) (sym done) ∙ so_far cell
  where
    none : (a b : Bool) → (a || (b && false)) ≡ a
    none true b = refl
    none false true = refl
    none false false = refl

-- the tests of rows and of columns, in the order of the definitions
pub in_row : (a i b c j : Bool) → ((a && i) && ((b && c) && j)) ≡ ((i && j) && (a && (b && c)))
in_row true true true true true = refl
in_row true true true true false = refl
in_row true true true false j = both_off j
  where
    both_off : (j : Bool) → ((true && true) && ((true && false) && j)) ≡ ((true && j) && (true && (true && false)))
    both_off true = refl
    both_off false = refl
in_row true true false c true = refl
in_row true true false c false = refl
in_row true false b c j = refl
in_row false i b c true = off i
  where
    off : (i : Bool) → false ≡ ((i && true) && false)
    off true = refl
    off false = refl
in_row false i b c false = off i
  where
    off : (i : Bool) → false ≡ ((i && false) && false)
    off true = refl
    off false = refl

pub in_column : (a i b c j : Bool) → (((b && c) && i) && (a && j)) ≡ ((i && j) && (a && (b && c)))
in_column a i b c j = swap ((b && c) && i) (a && j) ∙ in_row a j b c i ∙ ap (λ inside. inside && (a && (b && c))) (swap j i)
  where
    swap : (x y : Bool) → (x && y) ≡ (y && x)
    swap true true = refl
    swap true false = refl
    swap false true = refl
    swap false false = refl

pub in_both : (b c i d e j : Bool) → (((b && c) && i) && ((d && e) && j)) ≡ ((i && j) && ((d && e) && (b && c)))
in_both b c i d e j = both (b && c) i (d && e) j
  where
    both : (x i y j : Bool) → ((x && i) && (y && j)) ≡ ((i && j) && (y && x))
    both true true true true = refl
    both true true true false = refl
    both true true false true = refl
    both true true false false = refl
    both true false y j = refl
    both false true true true = refl
    both false true true false = refl
    both false true false true = refl
    both false true false false = refl
    both false false y j = refl

-- before any span
pub no_cells : (shape : ℕ × ℕ) (test : SpanEvent → Position → Bool) (cells : List Position) (left all : List SpanEvent) → cells ≡ [] → left ≡ all
    → (cell : Position) → (has cells cell || (is_inside shape.0 shape.1 cell && covered_by test left cell)) ≡ (is_inside shape.0 shape.1 cell && covered_by test all cell)
no_cells shape test cells left all none is cell = (λ i. has (none i) cell || (is_inside shape.0 shape.1 cell && covered_by test (is i) cell))

-- the entries of a map in order are those of its finite map
pub of_entries : (cells : List Position) (shape : ℕ × ℕ) (test : SpanEvent → Position → Bool) (es : List SpanEvent) → IsStrictlySortedBy position_cmp (keys_of es) → AreThose cells shape (covered_by test es) → AreThose cells shape (covered_by test (entries (table position_cmp es)))
of_entries cells shape test es ordered those = subst (λ spans. AreThose cells shape (covered_by test spans)) (entries_are es (table position_cmp es) ordered refl) those

-- whether a set of cells has one that lies inside the table
pub asked : (set : BTreeSet Position) (shape : ℕ × ℕ) (test : Position → Bool) (cell : Position) → AreThose set.keys shape test → is_inside shape.0 shape.1 cell ≡ true → contains position_cmp set cell ≡ test cell
asked set shape test cell those inside = set_has set cell ∙ those cell ∙ ap (λ b. b && test cell) inside

-- the cells of such a set lie inside, and so do those of a list that was one cell longer
pub all_inside : (cells walked : List Position) (shape : ℕ × ℕ) (test : Position → Bool) → AreThose cells shape test → walked ≡ cells → (cell : Position) → has walked cell ≡ true → is_inside shape.0 shape.1 cell ≡ true
all_inside cells walked shape test those is cell h = first (is_inside shape.0 shape.1 cell) (test cell) (sym (those cell) ∙ ap (λ list. has list cell) (sym is) ∙ h)
  where
    first : (a b : Bool) → (a && b) ≡ true → a ≡ true
    first true b e = refl
    first false b e = e

pub rest_inside : (left rest : List Position) (cell : Position) (inside : Position → Bool) → left ≡ cell ∷ rest → ((other : Position) → has left other ≡ true → inside other ≡ true) → (other : Position) → has rest other ≡ true → inside other ≡ true
rest_inside left rest cell inside next all other h = all other (ap (λ list. has list other) next ∙ or_right (same_position other cell) (has rest other) h)

pub next_inside : (left rest : List Position) (cell : Position) (inside : Position → Bool) → left ≡ cell ∷ rest → ((other : Position) → has left other ≡ true → inside other ≡ true) → inside cell ≡ true
next_inside left rest cell inside next all = all cell (ap (λ list. has list cell) next ∙ ap (λ b. b || has rest cell) (itself cell))
  where
    itself : (c : Position) → same_position c c ≡ true
    itself c = sym (is_same_position c c) ∙ (eq_by_cmp_equiv total-law).refl c

pub row_inside : (rows cols : ℕ) (cell : Position) → is_inside rows cols cell ≡ true → cell.row < rows
row_inside rows cols cell h = by (nat_lt cell.row rows) (nat_lt cell.col cols) refl h
  where
    by : (a b : Bool) → nat_lt cell.row rows ≡ a → (a && b) ≡ true → cell.row < rows
    by true b is e = grind (arith, nat_tests)
    by false b is e = absurd cc

pub col_inside : (rows cols : ℕ) (cell : Position) → is_inside rows cols cell ≡ true → cell.col < cols
col_inside rows cols cell h = by (nat_lt cell.row rows) (nat_lt cell.col cols) refl h
  where
    by : (a b : Bool) → nat_lt cell.col cols ≡ b → (a && b) ≡ true → cell.col < cols
    by true true is e = grind (arith, nat_tests)
    by true false is e = absurd cc
    by false b is e = absurd cc
