-- Sets of covered cells. Private functions alone cite this.
use Rattle.std.specs.Prelude.{◌≡◌, ℕ, ◌&&◌, nat_le, nat_lt, Bool, List}
use Rattle.std.specs.List.{list_any}
use Rattle.tabled_object.specs.declared.position.Position.{Position}
use Rattle.tabled_object.specs.Entities.{is_inside}
use Rattle.tabled_layout.specs.Spans.{SpanEvent, same_position}
use Rattle.tabled_correction.specs.declared.interval.Interval.{Interval}

-- whether a list has a cell
abbrev pub has : List Position → Position → Bool
has cells cell = list_any (same_position cell) cells

-- whether a number is one of an interval
abbrev pub is_in : Interval → ℕ → Bool
is_in interval n = nat_le interval.start n && nat_lt n interval.end

-- the cells of the list are those inside the table that pass
abbrev pub AreThose : List Position → ℕ × ℕ → (Position → Bool) → Type 0
AreThose cells shape test = (cell : Position) → has cells cell ≡ (is_inside shape.0 shape.1 cell && test cell)

-- whether one of these spans covers a cell, where the test says so of one span
abbrev pub covered_by : (SpanEvent → Position → Bool) → List SpanEvent → Position → Bool
covered_by test spans cell = list_any (λ span. test span cell) spans
