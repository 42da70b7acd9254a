-- Where the spans that cover a cell begin.
use Rattle.std.proofs.Common.{◌≡◌, ℕ, suc, zero, ◌+◌, ◌<◌, ◌≤◌, ◌==◌, ◌&&◌, ◌||◌, nat_lt, Bool, true, false, cond, Option, Some, None, List, [], ◌∷◌, refl, sym, ap, ◌∙◌, tests, arith, T, filter, unwrap_or}
use Rattle.std.specs.List.{list_any, range_with_len}
use Rattle.std.specs.Ordering.{eq_by_cmp}
use Rattle.std.specs.Cmp.{Equal-is, eq_by_cmp_equiv, both_ways}
use Rattle.std.specs.FinMap.Entries.{below_all}
use Rattle.std.specs.FinMap as map
use Rattle.std.specs.BTreeMap.Range.{range_contains}
use Rattle.std.specs.declared.ops.Bound.TheVariants.{Included, Excluded}
use Rattle.std.proofs.lemmas.Bool.{and_parts, eqb-true, eqb-false, eq-eqb, ltb-true, lt-ltb, and_from, or_left, or_right}
use Rattle.std.proofs.lemmas.Bool.Decides.{nat_tests}
use Rattle.tabled_object.specs.declared.position.Position.{Position}
use Rattle.tabled_object.specs.Entities.{position}
use Rattle.tabled_object.specs.contracts.position.PositionOrd.TheImpl.Laws.{total-law}
use Rattle.tabled_layout.specs.Spans.{position_cmp, SpanMap, SpanEvent, NoLonger, ReachedFrom, spans_in_row}
use Rattle.tabled_layout.specs.Covering.{within_columns, within_rows, within_its_rows, covered_by_row_span, covered_by_both_spans, covered_from_row, has_span}
use Rattle.tabled_layout.proofs.SpanLemmas.{positions_apart, found_in_whole, second_half}

-- ---- an entry that passes a test is a span that is kept

found_passes : (test : SpanEvent → Bool) (es : List SpanEvent) (position : Position) (count : ℕ) → map.find position_cmp position es ≡ Some count → test (position, count) ≡ true → list_any test es ≡ true
found_passes test [] position count found passes = absurd cc
found_passes test (e ∷ es) position count found passes = by (eq_by_cmp position_cmp position e.0) refl (λ later. found_passes test es position count later passes)
  where
    by : (here : Bool) → eq_by_cmp position_cmp position e.0 ≡ here → (map.find position_cmp position es ≡ Some count → list_any test es ≡ true) → (test e || list_any test es) ≡ true
    by true here rest =
        let place : position ≡ e.0 = positions_apart position e.0 ((Equal-is (position_cmp position e.0)).0 here) in
        let value : Some e.1 ≡ Some count = sym (ap (λ b. cond b (Some e.1) (map.find position_cmp position es)) here) ∙ found in
        let number : e.1 ≡ count = ap (λ o. unwrap_or o 0) value in
        or_left (test e) (list_any test es) (ap test (λ i. (sym place i, number i)) ∙ passes)
    by false here rest = or_right (test e) (list_any test es) (rest (sym (ap (λ b. cond b (Some e.1) (map.find position_cmp position es)) here) ∙ found))

passed_is_found : (test : SpanEvent → Bool) (es : List SpanEvent) → T (map.is_sorted position_cmp es) → list_any test es ≡ true → (event : SpanEvent) × (map.find position_cmp event.0 es ≡ Some event.1) × (test event ≡ true)
passed_is_found test [] sorted h = absurd cc
passed_is_found test (e ∷ es) sorted h = by (test e) refl (passed_is_found test es (second_half (below_all position_cmp e.0 es) (map.is_sorted position_cmp es) sorted))
  where
    by : (here : Bool) → test e ≡ here → (list_any test es ≡ true → (event : SpanEvent) × (map.find position_cmp event.0 es ≡ Some event.1) × (test event ≡ true)) → (event : SpanEvent) × (map.find position_cmp event.0 (e ∷ es) ≡ Some event.1) × (test event ≡ true)
    by true here rest = (e, ap (λ b. cond b (Some e.1) (map.find position_cmp e.0 es)) ((eq_by_cmp_equiv total-law).refl e.0), here)
    by false here rest =
        let later = rest (sym (ap (λ b. b || list_any test es) here) ∙ h) in
        (later.0, found_in_whole e es sorted later.0.0 later.0.1 later.1, later.2)

passes_if_kept : (spans : SpanMap) (test : SpanEvent → Bool) (event : SpanEvent) → map.get spans event.0 ≡ Some event.1 → test event ≡ true → list_any test (map.entries spans) ≡ true
passes_if_kept spans test event kept passes = found_passes test (map.entries spans) event.0 event.1 (sym (map.get-entries spans event.0) ∙ kept) passes

kept_if_passed : (spans : SpanMap) (test : SpanEvent → Bool) → list_any test (map.entries spans) ≡ true → (event : SpanEvent) × (map.get spans event.0 ≡ Some event.1) × (test event ≡ true)
kept_if_passed spans test h =
    let found = passed_is_found test (map.entries spans) (map.entries_sorted spans) h in
    (found.0, map.get-entries spans found.0.0 ∙ found.1, found.2)

-- two tests that the same spans pass
same_any : (spans : SpanMap) (f g : SpanEvent → Bool) → ((event : SpanEvent) → map.get spans event.0 ≡ Some event.1 → f event ≡ true → g event ≡ true) → ((event : SpanEvent) → map.get spans event.0 ≡ Some event.1 → g event ≡ true → f event ≡ true) → list_any f (map.entries spans) ≡ list_any g (map.entries spans)
same_any spans f g there back = both_ways (list_any f (map.entries spans)) (list_any g (map.entries spans))
    (λ h. let kept = kept_if_passed spans f h in passes_if_kept spans g kept.0 kept.1 (there kept.0 kept.1 kept.2))
    (λ h. let kept = kept_if_passed spans g h in passes_if_kept spans f kept.0 kept.1 (back kept.0 kept.1 kept.2))

-- ---- the spans of one row

any_of_part : (part test : SpanEvent → Bool) (es : List SpanEvent) → list_any test (filter part es) ≡ list_any (λ e. part e && test e) es
any_of_part part test [] = refl
any_of_part part test (e ∷ es) = by (part e) (any_of_part part test es)
  where
    by : (here : Bool) → list_any test (filter part es) ≡ list_any (λ e. part e && test e) es → list_any test (cond here (e ∷ filter part es) (filter part es)) ≡ ((here && test e) || list_any (λ e. part e && test e) es)
    by true rest = ap (λ b. test e || b) rest
    by false rest = rest

in_the_row : (row first end : ℕ) (position : Position) → Bool
in_the_row row first end position = range_contains position_cmp (Included (record { row = row; col = first })) (Excluded (record { row = row; col = end })) position

lies_in_row : (row first end : ℕ) (position : Position) → in_the_row row first end position ≡ true → (row ≡ position.row) × (first ≤ position.col) × (position.col < end)
unfolding in_the_row
lies_in_row row first end position h = grind (arith, tests, nat_tests)

in_row_if : (row first end : ℕ) (position : Position) → row ≡ position.row → first ≤ position.col → position.col < end → in_the_row row first end position ≡ true
unfolding in_the_row
in_row_if row first end position same from upto = grind (arith, tests, nat_tests)

-- ---- the rows above a cell

any_number : (test : ℕ → Bool) (first n at : ℕ) → first ≤ at → at < first + n → test at ≡ true → list_any test (range_with_len first n) ≡ true
any_number test first zero at from upto passes = absurd (omega arith)
any_number test first (suc n) at from upto passes = by (at == first) refl (λ later. any_number test (first + 1) n at later (omega arith) passes)
  where
    by : (here : Bool) → (at == first) ≡ here → (first + 1 ≤ at → list_any test (range_with_len (first + 1) n) ≡ true) → (test first || list_any test (range_with_len (first + 1) n)) ≡ true
    by true here rest = or_left (test first) (list_any test (range_with_len (first + 1) n)) (ap test (sym (eqb-true at first here)) ∙ passes)
    by false here rest = or_right (test first) (list_any test (range_with_len (first + 1) n)) (rest (let apart = eqb-false at first here in omega arith))

number_of_any : (test : ℕ → Bool) (first n : ℕ) → list_any test (range_with_len first n) ≡ true → (at : ℕ) × (first ≤ at) × (at < first + n) × (test at ≡ true)
number_of_any test first zero h = absurd cc
number_of_any test first (suc n) h = by (test first) refl (number_of_any test (first + 1) n)
  where
    by : (here : Bool) → test first ≡ here → (list_any test (range_with_len (first + 1) n) ≡ true → (at : ℕ) × (first + 1 ≤ at) × (at < (first + 1) + n) × (test at ≡ true)) → (at : ℕ) × (first ≤ at) × (at < first + suc n) × (test at ≡ true)
    by true here rest = (first, omega arith, omega arith, here)
    by false here rest =
        let later = rest (sym (ap (λ b. b || list_any test (range_with_len (first + 1) n)) here) ∙ h) in
        let from : first + 1 ≤ later.0 = later.1 in
        let upto : later.0 < (first + 1) + n = later.2 in
        (later.0, omega arith, omega arith, later.3)

-- ---- what each look-up answers

-- the two bounds of a cell within a count of rows, or of columns
within_count : (start count at : ℕ) → (nat_lt start at && nat_lt at (start + count)) ≡ true → (start < at) × (at < start + count)
within_count start count at h = let parts = and_parts (nat_lt start at) (nat_lt at (start + count)) h in (ltb-true start at parts.0, ltb-true at (start + count) parts.1)

-- the spans of one row from the first column that reaches a cell
pub any_in_row : (spans : SpanMap) (row first : ℕ) (cell : Position) (test : SpanEvent → Bool) → ReachedFrom first cell.col spans → ((span : SpanEvent) → test span ≡ true → within_columns span cell ≡ true) → list_any test (spans_in_row spans row first cell.col) ≡ list_any (λ span. (row == span.0.row) && test span) (map.entries spans)
unfolding in_the_row
any_in_row spans row first cell test reached within =
    any_of_part (λ span. in_the_row row first cell.col span.0) test (map.entries spans)
    ∙ same_any spans (λ span. in_the_row row first cell.col span.0 && test span) (λ span. (row == span.0.row) && test span)
    (λ event kept h.
    let parts = and_parts (in_the_row row first cell.col event.0) (test event) h in
    and_from (row == event.0.row) (test event) (eq-eqb row event.0.row (lies_in_row row first cell.col event.0 parts.0).0) parts.1)
    (λ event kept h.
    let parts = and_parts (row == event.0.row) (test event) h in
    let bounds = within_count event.0.col event.1 cell.col (within event parts.1) in
    and_from (in_the_row row first cell.col event.0) (test event) (in_row_if row first cell.col event.0 (eqb-true row event.0.row parts.0) (reached event.0 event.1 kept event.0.col bounds.1) bounds.0) parts.1)

-- the spans of the first cells of a row are some where one of them spans
pub some_in_row : (spans : SpanMap) (row count : ℕ) → list_any (λ span. true) (spans_in_row spans row 0 count) ≡ has_span spans row count
unfolding in_the_row
some_in_row spans row count =
    any_of_part (λ span. in_the_row row 0 count span.0) (λ span. true) (map.entries spans)
    ∙ same_any spans (λ span. in_the_row row 0 count span.0 && true) (λ span. (row == span.0.row) && nat_lt span.0.col count)
    (λ event kept h.
    let lies = lies_in_row row 0 count event.0 (and_parts (in_the_row row 0 count event.0) true h).0 in
    and_from (row == event.0.row) (nat_lt event.0.col count) (eq-eqb row event.0.row lies.0) (lt-ltb event.0.col count lies.2))
    (λ event kept h.
    let parts = and_parts (row == event.0.row) (nat_lt event.0.col count) h in
    and_from (in_the_row row 0 count event.0) true (in_row_if row 0 count event.0 (eqb-true row event.0.row parts.0) (omega arith) (ltb-true event.0.col count parts.1)) refl)

-- and where none does, nothing is kept for any of them
pub none_in_row : (spans : SpanMap) (row count : ℕ) → has_span spans row count ≡ false → (col : ℕ) → col < count → map.get spans (position row col) ≡ None
none_in_row spans row count none col within = by (map.get spans (position row col)) refl
  where
    by : (kept : Option ℕ) → map.get spans (position row col) ≡ kept → kept ≡ None
    by None is = refl
    by (Some n) is =
        let never : true ≡ false =
        sym (passes_if_kept spans (λ span. (row == span.0.row) && nat_lt span.0.col count) (position row col, n) is (and_from (row == row) (nat_lt col count) (eq-eqb row row refl) (lt-ltb col count within))) ∙ none in
        absurd cc

-- a cell stands within the rows that a position spans only where that has a row span
its_rows_kept : (rows : SpanMap) (position cell : Position) → within_its_rows rows position cell ≡ true → (count : ℕ) × (map.get rows position ≡ Some count) × (within_rows (position, count) cell ≡ true)
its_rows_kept rows position cell h = by (map.get rows position) refl
  where
    by : (kept : Option ℕ) → map.get rows position ≡ kept → (count : ℕ) × (map.get rows position ≡ Some count) × (within_rows (position, count) cell ≡ true)
    by None is = absurd (let bounds = within_count position.row 0 cell.row (sym (ap (λ o. within_rows (position, unwrap_or o 0) cell) is) ∙ h) in omega arith)
    by (Some count) is = (count, is, sym (ap (λ o. within_rows (position, unwrap_or o 0) cell) is) ∙ h)

its_rows_if : (rows : SpanMap) (position cell : Position) (count : ℕ) → map.get rows position ≡ Some count → within_rows (position, count) cell ≡ true → within_its_rows rows position cell ≡ true
its_rows_if rows position cell count kept h = ap (λ o. within_rows (position, unwrap_or o 0) cell) kept ∙ h

-- the rows from which one reaches the cell, each looked up at the cell's column
pub any_above : (spans : SpanMap) (first n : ℕ) (cell : Position) → ReachedFrom first cell.row spans → first + n ≡ cell.row → list_any (λ row. within_its_rows spans (record { row = row; col = cell.col }) cell) (range_with_len first n) ≡ covered_by_row_span spans cell
any_above spans first n cell reached end =
    let at_row : ℕ → Bool = λ row. within_its_rows spans (record { row = row; col = cell.col }) cell in
    let covers : SpanEvent → Bool = λ span. (cell.col == span.0.col) && within_rows span cell in
    both_ways (list_any at_row (range_with_len first n)) (list_any covers (map.entries spans))
    (λ h.
    let found = number_of_any at_row first n h in
    let place : Position = record { row = found.0; col = cell.col } in
    let kept = its_rows_kept spans place cell found.3 in
    passes_if_kept spans covers (place, kept.0) kept.1 (and_from (cell.col == cell.col) (within_rows (place, kept.0) cell) (eq-eqb cell.col cell.col refl) kept.2))
    (λ h.
    let kept = kept_if_passed spans covers h in
    let span : SpanEvent = kept.0 in
    let parts = and_parts (cell.col == span.0.col) (within_rows span cell) kept.2 in
    let bounds = within_count span.0.row span.1 cell.row parts.1 in
    let above : span.0.row < cell.row = bounds.0 in
    any_number at_row first n span.0.row (reached span.0 span.1 kept.1 span.0.row bounds.1) (omega (arith, end)) (
    ap (λ col. within_its_rows spans (record { row = span.0.row; col = col }) cell) (eqb-true cell.col span.0.col parts.0)
    ∙ its_rows_if spans span.0 cell span.1 kept.1 parts.1))

-- the rows from which one reaches the cell, each with all of its spans
pub any_from_rows : (columns rows : SpanMap) (first n : ℕ) (cell : Position) → ReachedFrom first cell.row rows → first + n ≡ cell.row → list_any (λ row. covered_from_row columns rows row cell) (range_with_len first n) ≡ covered_by_both_spans columns rows cell
any_from_rows columns rows first n cell reached end =
    let covers : SpanEvent → Bool = λ span. within_columns span cell && within_its_rows rows span.0 cell in
    let from_row : ℕ → SpanEvent → Bool = λ row span. (row == span.0.row) && covers span in
    let at_row : ℕ → Bool = λ row. list_any (from_row row) (map.entries columns) in
    both_ways (list_any at_row (range_with_len first n)) (list_any covers (map.entries columns))
    (λ h.
    let found = number_of_any at_row first n h in
    let kept = kept_if_passed columns (from_row found.0) found.3 in
    passes_if_kept columns covers kept.0 kept.1 (and_parts (found.0 == kept.0.0.row) (covers kept.0) kept.2).1)
    (λ h.
    let kept = kept_if_passed columns covers h in
    let span : SpanEvent = kept.0 in
    let own = its_rows_kept rows span.0 cell (and_parts (within_columns span cell) (within_its_rows rows span.0 cell) kept.2).1 in
    let bounds = within_count span.0.row own.0 cell.row own.2 in
    let above : span.0.row < cell.row = bounds.0 in
    any_number at_row first n span.0.row (reached span.0 own.0 own.1 span.0.row bounds.1) (omega (arith, end)) (
    passes_if_kept columns (from_row span.0.row) span kept.1 (and_from (span.0.row == span.0.row) (covers span) (eq-eqb span.0.row span.0.row refl) kept.2)))

-- ---- the longest

pub none_longer : (longest : ℕ) → NoLonger longest map.empty
none_longer longest position count kept = absurd (let none = sym (map.get-empty {X = ℕ} position_cmp position) ∙ kept in cc)

pub longer_by_one : (longest more : ℕ) (spans : SpanMap) (position : Position) (count : ℕ) → longest ≤ more → count ≤ more → NoLonger longest spans → NoLonger more (map.insert spans position count)
longer_by_one longest more spans position count old new held place number kept = by (eq_by_cmp position_cmp place position) (sym (map.get-insert total-law spans position count place) ∙ kept)
  where
    by : (here : Bool) → cond here (Some count) (map.get spans place) ≡ Some number → number ≤ more
    by true is = let same : count ≡ number = ap (λ o. unwrap_or o 0) is in omega arith
    by false is = let few : number ≤ longest = held place number is in omega arith

pub no_longer_without : (longest : ℕ) (spans : SpanMap) (position : Position) → NoLonger longest spans → NoLonger longest (map.remove spans position)
no_longer_without longest spans position held place number kept = by (eq_by_cmp position_cmp place position) (sym (map.get-remove total-law spans position place) ∙ kept)
  where
    by : (here : Bool) → cond here None (map.get spans place) ≡ Some number → number ≤ longest
    by true is = absurd cc
    by false is = held place number is
