-- The spans of one direction: over how many columns, or rows, a cell spans.
use Rattle.std.specs.Prelude.{◌≡◌, ℕ, ◌+◌, ◌<◌, ◌≤◌, Bool, ◌&&◌, ◌==◌, nat_lt, if◌then◌else◌, Option, Some, None, List, [], ◌∷◌, map, reverse, filter, option_and_then}
use Rattle.std.specs.List.{last_or}
use Rattle.std.specs.FinMap.{FinMap, get, insert, remove, entries}
use Rattle.std.specs.BTreeMap.Range.{entries_between}
use Rattle.std.specs.declared.ops.Bound.TheVariants.{Included, Excluded}
use Rattle.std.specs.declared.cmp.Ordering.{Ordering}
use Rattle.tabled_object.specs.declared.position.Position.{Position}
use Rattle.tabled_object.specs.contracts.position.PositionOrd.TheImpl.{cmp-value}

-- the order of positions: by rows, and in each row by columns
abbrev pub position_cmp : Position → Position → Ordering
position_cmp a b = cmp-value.it a b

-- the count that is kept at each position that spans
abbrev pub SpanMap : Type 0
SpanMap = FinMap position_cmp ℕ

-- a call for a position with a count
abbrev pub SpanEvent : Type 0
SpanEvent = Position × ℕ

-- the spans after a call: fewer than two columns, or rows, are no span
abbrev pub after_span : SpanMap → SpanEvent → SpanMap
after_span spans (position, count) = if nat_lt count 2 then remove spans position else insert spans position count

-- the spans after a list of calls
abbrev pub spans_after : SpanMap → List SpanEvent → SpanMap
spans_after spans [] = spans
spans_after spans (event ∷ events) = spans_after (after_span spans event) events

-- the calls for some cells, each with the same count
abbrev pub calls_for : ℕ → List Position → List SpanEvent
calls_for count cells = map (λ cell. (cell, count)) cells

-- the calls that make these spans, from the last position to the first
abbrev pub spans_left : SpanMap → List SpanEvent
spans_left spans = reverse (entries spans)

-- whether two positions are one
abbrev pub same_position : Position → Position → Bool
same_position a b = (a.row == b.row) && (a.col == b.col)

-- a count, if that is a span
abbrev pub if_several : ℕ → Option ℕ
if_several count = if nat_lt count 2 then None else Some count

-- of the calls for a position the last one counts
abbrev pub span_of : List SpanEvent → Position → Option ℕ
span_of events position = option_and_then (λ event. if_several event.1) (last_or None (filter (λ event. same_position position event.0) events))

-- no count is greater
abbrev pub NoLonger : ℕ → SpanMap → Type 0
NoLonger longest spans = (position : Position) (count : ℕ) → get spans position ≡ Some count → count ≤ longest

-- only spans that begin at the first row, or column, or after it reach the given one
abbrev pub ReachedFrom : ℕ → ℕ → SpanMap → Type 0
ReachedFrom first given spans = (position : Position) (count : ℕ) → get spans position ≡ Some count → (start : ℕ) → given < start + count → first ≤ start

-- the spans of one row from a column on, up to another column and without it
abbrev pub spans_in_row : SpanMap → ℕ → ℕ → ℕ → List SpanEvent
spans_in_row spans row first end = entries_between position_cmp (Included (record { row = row; col = first })) (Excluded (record { row = row; col = end })) (entries spans)
