-- Spans that are set and taken back.
use Rattle.std.proofs.Common.{◌≡◌, ℕ, nat_lt, ◌<◌, arith, Bool, true, false, cond, ◌≤◌, OnOk, Option, Some, None, List, [], ◌∷◌, ◌++◌, refl, sym, ap, ◌∙◌, if◌then◌else◌, is_some, Result, OnErr, Ok, Err}
use Rattle.std.specs.Ordering.{eq_by_cmp}
use Rattle.std.specs.Cmp.{Equal-is, eq_by_cmp_equiv}
use Rattle.std.specs.FinMap as finmap
use Rattle.std.proofs.lemmas.Bool.Decides.{nat_tests}
use Rattle.tabled_object.specs.declared.position.Position.{Position}
use Rattle.tabled_object.specs.contracts.position.PositionOrd.TheImpl.Laws.{total-law}
use Rattle.tabled_layout.specs.Spans.{position_cmp, SpanMap, after_span, spans_after, calls_for}
use Rattle.tabled_layout.specs.TakenBack.{Note, put_back, taken_back}
use Rattle.tabled_layout.proofs.SpanLemmas.{positions_apart}

-- ---- one position

same : (q cell : Position) → eq_by_cmp position_cmp q cell ≡ true → q ≡ cell
same q cell here = positions_apart q cell ((Equal-is (position_cmp q cell)).0 here)

itself : (cell : Position) → eq_by_cmp position_cmp cell cell ≡ true
itself cell = (eq_by_cmp_equiv total-law).refl cell

as_spans : (spans m : SpanMap) (cell : Position) (kept : Option ℕ) → finmap.get spans cell ≡ kept → ((q : Position) → finmap.get m q ≡ cond (eq_by_cmp position_cmp q cell) kept (finmap.get spans q)) → m ≡ spans
as_spans spans m cell kept is at = finmap.same_map total-law positions_apart m spans (λ q. at q ∙ by q (eq_by_cmp position_cmp q cell) refl)
  where
    by : (q : Position) (here : Bool) → eq_by_cmp position_cmp q cell ≡ here → cond here kept (finmap.get spans q) ≡ finmap.get spans q
    by q true here = sym (ap (finmap.get spans) (same q cell here) ∙ is)
    by q false here = refl

twice : (here : Bool) (a b c : Option ℕ) → cond here a (cond here b c) ≡ cond here a c
twice true a b c = refl
twice false a b c = refl

-- what was noted before a call takes it back
pub put_back-set : (spans : SpanMap) (cell : Position) (count : ℕ) → nat_lt count 2 ≡ false → put_back (after_span spans (cell, count)) (cell, finmap.get spans cell) ≡ spans
put_back-set spans cell count several = ap (λ few. put_back (if few then finmap.remove spans cell else finmap.insert spans cell count) (cell, finmap.get spans cell)) several ∙ by (finmap.get spans cell) refl
  where
    changed : SpanMap
    changed = finmap.insert spans cell count

    at : (q : Position) → finmap.get changed q ≡ cond (eq_by_cmp position_cmp q cell) (Some count) (finmap.get spans q)
    at q = finmap.get-insert total-law spans cell count q

    stands : is_some (finmap.get changed cell) ≡ true
    stands = ap is_some (at cell ∙ ap (λ here. cond here (Some count) (finmap.get spans cell)) (itself cell))

    by : (kept : Option ℕ) → finmap.get spans cell ≡ kept → put_back changed (cell, kept) ≡ spans
    by None is = as_spans spans (finmap.remove changed cell) cell None is
        (λ q. finmap.get-remove total-law changed cell q ∙ ap (λ old. cond (eq_by_cmp position_cmp q cell) None old) (at q) ∙ twice (eq_by_cmp position_cmp q cell) None (Some count) (finmap.get spans q))
    by (Some old) is =
        ap (λ b. if b then finmap.insert changed cell old else changed) stands
        ∙ as_spans spans (finmap.insert changed cell old) cell (Some old) is
        (λ q. finmap.get-insert total-law changed cell old q ∙ ap (λ before. cond (eq_by_cmp position_cmp q cell) (Some old) before) (at q) ∙ twice (eq_by_cmp position_cmp q cell) (Some old) (Some count) (finmap.get spans q))

-- where nothing was kept and nothing was set, nothing changes
pub put_back-unset : (spans : SpanMap) (cell : Position) → finmap.get spans cell ≡ None → put_back spans (cell, finmap.get spans cell) ≡ spans
put_back-unset spans cell none =
    ap (λ kept. put_back spans (cell, kept)) none
    ∙ as_spans spans (finmap.remove spans cell) cell None none (λ q. finmap.get-remove total-law spans cell q)

-- ---- several

-- the last note is put back first
pub taken_back-last : (spans : SpanMap) (notes : List Note) (note : Note) → taken_back spans (notes ++ note ∷ []) ≡ taken_back (put_back spans note) notes
taken_back-last spans [] note = refl
taken_back-last spans (first ∷ notes) note = ap (λ before. put_back before first) (taken_back-last spans notes note)

calls_in_a_row : (count : ℕ) (cells more : List Position) (spans : SpanMap) → spans_after spans (calls_for count (cells ++ more)) ≡ spans_after (spans_after spans (calls_for count cells)) (calls_for count more)
calls_in_a_row count [] more spans = refl
calls_in_a_row count (cell ∷ cells) more spans = calls_in_a_row count cells more (after_span spans (cell, count))

-- one call more
pub one_call : (count : ℕ) (cells all : List Position) (cell : Position) (old mid new : SpanMap) → all ≡ cells ++ cell ∷ [] → mid ≡ spans_after old (calls_for count cells) → new ≡ after_span mid (cell, count) → new ≡ spans_after old (calls_for count all)
one_call count cells all cell old mid new is before last =
    last ∙ ap (λ m. after_span m (cell, count)) before ∙ sym (calls_in_a_row count cells (cell ∷ []) old) ∙ ap (λ cs. spans_after old (calls_for count cs)) (sym is)

pub where_refused : {A E P : Type 0} (result : Result A E) → P → OnErr result P
where_refused (Ok x) p = tt
where_refused (Err e) p = p

not_few : (count : ℕ) → 2 ≤ count → nat_lt count 2 ≡ false
not_few count several = grind (arith, nat_tests)

pub few_are : (count : ℕ) → count < 2 → nat_lt count 2 ≡ true
few_are count few = grind (arith, nat_tests)

-- a note, and a span that is set after it or refused
pub noted : {A E : Type 0} (old new : SpanMap) (cell : Position) (count : ℕ) (kept : Option ℕ) (before notes : List Note) (result : Result A E) → 2 ≤ count → kept ≡ finmap.get old cell → notes ≡ before ++ (cell, kept) ∷ []
    → OnOk result (new ≡ finmap.insert old cell count) → OnErr result (new ≡ old) → OnErr result (finmap.get old cell ≡ None) → taken_back new notes ≡ taken_back old before
noted old new cell count kept before notes result several is written ok err absent =
    (λ i. taken_back new (written i)) ∙ (λ i. taken_back new (before ++ (cell, is i) ∷ [])) ∙ taken_back-last new before (cell, finmap.get old cell) ∙ ap (λ m. taken_back m before) (by result ok err absent)
  where
    by : {A E : Type 0} (result : Result A E) → OnOk result (new ≡ finmap.insert old cell count) → OnErr result (new ≡ old) → OnErr result (finmap.get old cell ≡ None) → put_back new (cell, finmap.get old cell) ≡ old
    by (Ok x) ok err absent =
        ap (λ m. put_back m (cell, finmap.get old cell)) (ok ∙ ap (λ few. if few then finmap.remove old cell else finmap.insert old cell count) (sym (not_few count several)))
        ∙ put_back-set old cell count (not_few count several)
    by (Err e) ok err absent = ap (λ m. put_back m (cell, finmap.get old cell)) err ∙ put_back-unset old cell absent

-- a span that is removed is one that few columns, or rows, are asked for
pub as_call : (count : ℕ) → count < 2 → (mid new : SpanMap) (cell : Position) → new ≡ finmap.remove mid cell → new ≡ after_span mid (cell, count)
as_call count few mid new cell removed = removed ∙ ap (λ b. if b then finmap.remove mid cell else finmap.insert mid cell count) (sym (few_are count few))
