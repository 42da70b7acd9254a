-- What calls make of the spans.
use Rattle.std.proofs.Common.{◌≡◌, ℕ, ◌==◌, ◌&&◌, nat_lt, Bool, true, false, cond, Option, Some, None, List, [], ◌∷◌, ◌++◌, refl, sym, ap, subst, ◌∙◌, T, if◌then◌else◌, reverse, filter, option_and_then, unwrap_or, Ordering, Less, Equal, Greater}
use Rattle.std.specs.List.{last_or}
use Rattle.std.specs.Ordering.{nat_cmp, is_lt, is_eq, eq_by_cmp}
use Rattle.std.specs.Cmp.{Equal-is, eq_by_cmp_equiv, unsigned_tied, tied_then}
use Rattle.std.specs.FinMap.Entries.{below_all}
use Rattle.std.specs.FinMap as map
use Rattle.std.specs.List.Sorted.{IsStrictlySortedBy}
use Rattle.std.specs.Map.{keys_of}
use Rattle.std.proofs.lemmas.Bool.{eqb-true, and_parts}
use Rattle.std.proofs.lemmas.List.{reverse-append}
use Rattle.tabled_object.specs.declared.position.Position.{Position}
use Rattle.tabled_object.specs.contracts.position.PositionOrd.TheImpl.Laws.{total-law}
use Rattle.tabled_kept.specs.Table.{table}
use Rattle.tabled_kept.proofs.Ascending.{entries-table}
use Rattle.tabled_layout.specs.Spans.{position_cmp, SpanMap, SpanEvent, after_span, spans_after, spans_left, same_position, if_several, span_of}

-- positions that compare alike are the same
pub is_same_position : (a b : Position) → eq_by_cmp position_cmp a b ≡ same_position a b
is_same_position a b = sym (tied_then (nat_cmp a.row b.row) (nat_cmp a.col b.col)) ∙ (λ i. unsigned_tied a.row b.row i && unsigned_tied a.col b.col i)

equal_positions : (a b : Position) → same_position a b ≡ true → a ≡ b
equal_positions a b h =
    let parts = and_parts (a.row == b.row) (a.col == b.col) h in
    λ i. record { row = eqb-true a.row b.row parts.0 i; col = eqb-true a.col b.col parts.1 i }

pub positions_apart : map.IsAntisymmetric position_cmp
positions_apart a b alike = equal_positions a b (sym (is_same_position a b) ∙ ap is_eq alike)

-- one call, seen at a position
at_position : (spans : SpanMap) (event : SpanEvent) (position : Position) → map.get (after_span spans event) position ≡ cond (same_position position event.0) (if_several event.1) (map.get spans position)
at_position spans (place, count) position = by (nat_lt count 2) refl
  where
    by : (few : Bool) → nat_lt count 2 ≡ few → map.get (if few then map.remove spans place else map.insert spans place count) position ≡ cond (same_position position place) (if few then None else Some count) (map.get spans position)
    by true is = map.get-remove total-law spans place position ∙ ap (λ here. cond here None (map.get spans position)) (is_same_position position place)
    by false is = map.get-insert total-law spans place count position ∙ ap (λ here. cond here (Some count) (map.get spans position)) (is_same_position position place)

counted : Option SpanEvent → Option ℕ
counted event = option_and_then (λ e. if_several e.1) event

-- the calls for a position
mine : Position → List SpanEvent → List SpanEvent
mine position events = filter (λ event. same_position position event.0) events

-- the last call for a position, after one call more
step : (here : Bool) (event : SpanEvent) (before : Option SpanEvent) (rest : List SpanEvent) → last_or (cond here (Some event) before) rest ≡ last_or before (cond here (event ∷ rest) rest)
step true event before rest = refl
step false event before rest = refl

seen : (here : Bool) (event : SpanEvent) (before : Option SpanEvent) (kept : Option ℕ) → kept ≡ counted before → cond here (if_several event.1) kept ≡ counted (cond here (Some event) before)
unfolding counted
seen true event before kept is = refl
seen false event before kept is = is

last_counts : (events : List SpanEvent) (position : Position) (spans : SpanMap) (before : Option SpanEvent) → map.get spans position ≡ counted before → map.get (spans_after spans events) position ≡ counted (last_or before (mine position events))
unfolding mine
last_counts [] position spans before is = is
last_counts (event ∷ events) position spans before is =
    last_counts events position (after_span spans event) (cond (same_position position event.0) (Some event) before)
    (at_position spans event position ∙ seen (same_position position event.0) event before (map.get spans position) is)
    ∙ ap counted (step (same_position position event.0) event before (mine position events))

pub last_call_counts : (events : List SpanEvent) (position : Position) → map.get (spans_after map.empty events) position ≡ span_of events position
unfolding counted mine
last_call_counts events position = last_counts events position map.empty None (map.get-empty position_cmp position)

-- two lists of calls in a row
pub spans_after-append : (spans : SpanMap) (es fs : List SpanEvent) → spans_after spans (es ++ fs) ≡ spans_after (spans_after spans es) fs
spans_after-append spans [] fs = refl
spans_after-append spans (e ∷ es) fs = spans_after-append (after_span spans e) es fs

-- ---- what is left makes the same

-- every count is a span
AreSpans : List SpanEvent → Type 0
AreSpans [] = Unit {0}
AreSpans (e ∷ es) = (nat_lt e.1 2 ≡ false) × AreSpans es

pub first_half : (a b : Bool) → T (a && b) → T a
first_half true b h = tt
first_half false b h = h

pub second_half : (a b : Bool) → T (a && b) → T b
second_half true b h = h
second_half false b h = absurd h

less_apart : (o : Ordering) → T (is_lt o) → is_eq o ≡ false
less_apart Less h = refl
less_apart Equal h = absurd h
less_apart Greater h = absurd h

-- a position below all others is not found
none_below : (position : Position) (es : List SpanEvent) → T (below_all position_cmp position es) → map.find position_cmp position es ≡ None
none_below position [] h = refl
none_below position (e ∷ es) h =
    ap (λ b. cond b (Some e.1) (map.find position_cmp position es)) (less_apart (position_cmp position e.0) (first_half (is_lt (position_cmp position e.0)) (below_all position_cmp position es) h))
    ∙ none_below position es (second_half (is_lt (position_cmp position e.0)) (below_all position_cmp position es) h)

-- what is found in the rest is found in the whole
pub found_in_whole : (e : SpanEvent) (es : List SpanEvent) → T (map.is_sorted position_cmp (e ∷ es)) → (position : Position) (count : ℕ) → map.find position_cmp position es ≡ Some count → map.find position_cmp position (e ∷ es) ≡ Some count
found_in_whole e es sorted position count found = by (eq_by_cmp position_cmp position e.0) refl
  where
    by : (here : Bool) → eq_by_cmp position_cmp position e.0 ≡ here → cond here (Some e.1) (map.find position_cmp position es) ≡ Some count
    by false here = found
    by true here =
        let is : position ≡ e.0 = positions_apart position e.0 ((Equal-is (position_cmp position e.0)).0 here) in
        let none : map.find position_cmp position es ≡ None = subst (λ p. map.find position_cmp p es ≡ None) (sym is) (none_below e.0 es (first_half (below_all position_cmp e.0 es) (map.is_sorted position_cmp es) sorted)) in
        absurd (let is_none = sym none ∙ found in cc)

are_spans : (es : List SpanEvent) → T (map.is_sorted position_cmp es) → ((position : Position) (count : ℕ) → map.find position_cmp position es ≡ Some count → nat_lt count 2 ≡ false) → AreSpans es
unfolding AreSpans
are_spans [] sorted several = tt
are_spans (e ∷ es) sorted several = (
  several e.0 e.1 (ap (λ b. cond b (Some e.1) (map.find position_cmp e.0 es)) ((eq_by_cmp_equiv total-law).refl e.0)),
  are_spans es (second_half (below_all position_cmp e.0 es) (map.is_sorted position_cmp es) sorted) (λ position count found. several position count (found_in_whole e es sorted position count found)),
)

made_again : (es : List SpanEvent) → AreSpans es → spans_after map.empty (reverse es) ≡ map.from_entries es
unfolding AreSpans
made_again [] are = refl
made_again (e ∷ es) are =
    ap (spans_after map.empty) (reverse-append (e ∷ []) es) ∙ spans_after-append map.empty (reverse es) (e ∷ [])
    ∙ ap (λ spans. after_span spans e) (made_again es are.1)
    ∙ ap (λ few. if few then map.remove (map.from_entries es) e.0 else map.insert (map.from_entries es) e.0 e.1) are.0

several_left : (event : Option SpanEvent) (count : ℕ) → option_and_then (λ e. if_several e.1) event ≡ Some count → nat_lt count 2 ≡ false
several_left None count is = absurd cc
several_left (Some e) count is = by (nat_lt e.1 2) refl
  where
    by : (few : Bool) → nat_lt e.1 2 ≡ few → nat_lt count 2 ≡ false
    by true few = absurd (let none = sym (ap (λ b. if b then None else Some e.1) few) ∙ is in cc)
    by false few = let same = sym (ap (λ b. if b then None else Some e.1) few) ∙ is in subst (λ n. nat_lt n 2 ≡ false) (ap (λ o. unwrap_or o 0) same) few

-- the spans that calls left are made by the calls that are left of them
pub made_by_what_is_left : (events : List SpanEvent) → spans_after map.empty (spans_left (spans_after map.empty events)) ≡ spans_after map.empty events
made_by_what_is_left events =
    let spans : SpanMap = spans_after map.empty events in
    made_again (map.entries spans) (are_spans (map.entries spans) (map.entries_sorted spans) (λ position count found.
    several_left (last_or None (filter (λ event. same_position position event.0) events)) count (sym (last_call_counts events position) ∙ map.get-entries spans position ∙ found)))
    ∙ map.same_map total-law positions_apart _ _ (λ position. map.get-from_entries total-law (map.entries spans) position ∙ sym (map.get-entries spans position))

-- there are none where their number is 0
pub none_counted : (spans : SpanMap) (answer : Bool) → (answer ≡ true → spans ≡ map.empty) → (spans ≡ map.empty → answer ≡ true) → answer ≡ (map.len spans == 0)
none_counted spans true says only = sym (ap (λ n. n == 0) (ap map.len (says refl) ∙ map.len-empty position_cmp ℕ))
none_counted spans false says only = by (map.len spans == 0) refl
  where
    by : (nothing : Bool) → (map.len spans == 0) ≡ nothing → false ≡ (map.len spans == 0)
    by false is = sym is
    by true is = absurd (let e = only (map.empty_of_len spans (eqb-true (map.len spans) 0 is)) in cc)

-- the entries of a map that lies in order are those of its spans
pub entries_are : (es : List SpanEvent) (spans : SpanMap) → IsStrictlySortedBy position_cmp (keys_of es) → table position_cmp es ≡ spans → es ≡ map.entries spans
entries_are es spans ordered is = sym (entries-table total-law es ordered) ∙ ap map.entries is
