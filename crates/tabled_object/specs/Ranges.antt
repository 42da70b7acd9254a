-- Which rows, columns and cells ranges of numbers name.
use Rattle.std.specs.Prelude.{ℕ, ◌-◌, ◌%◌, ◌==◌, ◌&&◌, Bool, true, false, nat_le, nat_lt, List, map}
use Rattle.std.specs.List.{filter, range_with_len}
use Rattle.std.specs.Range.Bound.{start_index}
use Rattle.std.specs.declared.ops.Bound.{Bound}
use Rattle.std.specs.declared.ops.Bound.TheVariants.{Included, Excluded, Unbounded}
use Rattle.tabled_object.specs.declared.entity.Entity.{Entity}
use Rattle.tabled_object.specs.declared.entity.Entity.TheVariants.{Row, Column}
use Rattle.tabled_object.specs.Entities.{below, rectangle}
use Rattle.tabled_object.specs.Listing.{alone}

-- whether a number is not before the start of a range
abbrev pub is_from : Bound ℕ → ℕ → Bool
is_from (Included first) n = nat_le first n
is_from (Excluded before) n = nat_lt before n
is_from Unbounded n = true

-- whether a number is not past the end of a range
abbrev pub is_up_to : Bound ℕ → ℕ → Bool
is_up_to (Included last) n = nat_le n last
is_up_to (Excluded end) n = nat_lt n end
is_up_to Unbounded n = true

-- whether a range of these bounds contains a number
abbrev pub contains : Bound ℕ → Bound ℕ → ℕ → Bool
contains start end n = is_from start n && is_up_to end n

-- the numbers below a count that a range contains, rising
unfoldable pub numbers_in : Bound ℕ → Bound ℕ → ℕ → List ℕ
numbers_in start end count = filter (contains start end) (below count)

-- the rows of a table that a range contains, in order
abbrev pub rows_in : Bound ℕ → Bound ℕ → ℕ → List Entity
rows_in start end rows = map Row (numbers_in start end rows)

-- the columns of a table that a range contains, in order
abbrev pub columns_in : Bound ℕ → Bound ℕ → ℕ → List Entity
columns_in start end cols = map Column (numbers_in start end cols)

-- the cells of a table whose row the one range contains, and whose column the other one, in row order
abbrev pub cells_in : Bound ℕ → Bound ℕ → Bound ℕ → Bound ℕ → ℕ → ℕ → List Entity
cells_in first_row last_row first_col last_col rows cols = map alone (rectangle (numbers_in first_row last_row rows) (numbers_in first_col last_col cols))

-- ---- in steps

-- whether what is so far from the first one is a whole number of steps from it; of steps of 0 nothing is
abbrev pub is_on_step : ℕ → ℕ → Bool
is_on_step step distance = nat_lt 0 step && (distance % step == 0)

-- whether a range contains a number that is a whole number of steps from its start
abbrev pub contains_step : Bound ℕ → Bound ℕ → ℕ → ℕ → Bool
contains_step start end step n = contains start end n && is_on_step step (n - start_index start)

-- the numbers below a count that a range contains in steps, rising
unfoldable pub numbers_on_step : Bound ℕ → Bound ℕ → ℕ → ℕ → List ℕ
numbers_on_step start end step count = filter (contains_step start end step) (below count)

abbrev pub rows_on_step : Bound ℕ → Bound ℕ → ℕ → ℕ → List Entity
rows_on_step start end step rows = map Row (numbers_on_step start end step rows)

abbrev pub columns_on_step : Bound ℕ → Bound ℕ → ℕ → ℕ → List Entity
columns_on_step start end step cols = map Column (numbers_on_step start end step cols)

-- ---- how they are counted

-- a row, or else a column
abbrev pub line_of : Bool → ℕ → Entity
line_of true = Row
line_of false = Column

-- the numbers from a first one on, in steps, below an end
unfoldable pub stepped : ℕ → ℕ → ℕ → List ℕ
stepped first step end = filter (λ n. (n - first) % step == 0) (range_with_len first (end - first))
