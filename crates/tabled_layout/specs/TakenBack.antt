-- Spans that are taken back by what was noted before each of them was set. Private functions alone cite this.
use Rattle.std.specs.Prelude.{ℕ, is_some, if◌then◌else◌, Option, Some, None, List, [], ◌∷◌}
use Rattle.std.specs.FinMap.{get, insert, remove}
use Rattle.tabled_object.specs.declared.position.Position.{Position}
use Rattle.tabled_layout.specs.Spans.{SpanMap}

-- what is noted before a span is set: its position, and the count that is kept there
abbrev pub Note : Type 0
Note = Position × Option ℕ

-- a position has what was noted: no span, or the one in whose place another stands
abbrev pub put_back : SpanMap → Note → SpanMap
put_back spans (position, None) = remove spans position
put_back spans (position, Some count) = if is_some (get spans position) then insert spans position count else spans

-- so have all of some positions, from the last note to the first
abbrev pub taken_back : SpanMap → List Note → SpanMap
taken_back spans [] = spans
taken_back spans (note ∷ later) = put_back (taken_back spans later) note
