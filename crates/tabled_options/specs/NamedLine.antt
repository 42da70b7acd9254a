-- The lines that rows and columns name.
use Rattle.std.specs.Prelude.{ℕ, ◌-◌, nat_lt, if◌then◌else◌, Option, Some, None, option_map}
use Rattle.tabled_places.specs.declared.place.LineOf.{LineOf}

-- the line above a row, and that left of a column
abbrev pub row_line : ℕ → Option LineOf
row_line index = Some (LineOf.Horizontal index)

abbrev pub column_line : ℕ → Option LineOf
column_line index = Some (LineOf.Vertical index)

-- of `count` numbers, counted from 0, the one that has `offset` of them after it, if there is one
abbrev pub before_last : ℕ → ℕ → Option ℕ
before_last count offset = if nat_lt offset count then Some (count - 1 - offset) else None

-- the line above the row that has `offset` rows below it, and the line left of the column that has `offset` columns at its
-- right, if there is one
abbrev pub last_row_line : ℕ → ℕ × ℕ → Option LineOf
last_row_line offset (rows, cols) = option_map LineOf.Horizontal (before_last rows offset)

abbrev pub last_column_line : ℕ → ℕ × ℕ → Option LineOf
last_column_line offset (rows, cols) = option_map LineOf.Vertical (before_last cols offset)
