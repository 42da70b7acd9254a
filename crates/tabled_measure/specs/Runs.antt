-- Runs of equal texts: cells beside one another, down a column or along a row, that become one cell.
use Rattle.std.specs.Prelude.{ℕ, ◌-◌, ◌==◌, ◌&&◌, ◌||◌, Bool, not, nat_lt, if◌then◌else◌, bytes_eq, List, filter, flat_map, length, map, take_while}
use Rattle.std.specs.List.{range_with_len}
use Rattle.tabled_object.specs.Entities.{cells_of, position}
use Rattle.tabled_object.specs.declared.entity.Entity.TheVariants.{Global}
use Rattle.tabled_object.specs.declared.position.Position.{Position}
use Rattle.tabled_configuration.specs.Configuration.{ConfigEvent, by_column_span, by_row_span}
use Rattle.tabled_numbers.specs.Columns.{column_count}
use Rattle.tabled_measure.specs.Found.{text_at}
use Rattle.tabled_width.specs.Texts.{Table}

-- the row of a cell, where runs go down, and else its column
abbrev pub number : Bool → Position → ℕ
number down cell = if down then cell.row else cell.col

-- how many rows there are, or columns
abbrev pub count_along : Bool → Table → ℕ
count_along down table = if down then length table else column_count table

-- the cell of another row, or of another column
abbrev pub moved : Bool → Position → ℕ → Position
moved down cell n = if down then position n cell.col else position cell.row n

-- whether two cells are both among those that are asked for, and have one text
abbrev pub are_alike : (Position → Bool) → Table → Position → Position → Bool
are_alike asked table one other = (asked one && asked other) && bytes_eq (text_at table one.row one.col) (text_at table other.row other.col)

-- whether a run may begin at a cell: the one before is not like it
abbrev pub begins : Bool → (Position → Bool) → Table → Position → Bool
begins down asked table cell = (number down cell == 0) || not (are_alike asked table (moved down cell (number down cell - 1)) cell)

-- how many cells from one on are like it, one after the other, itself among them
abbrev pub run_length : Bool → (Position → Bool) → Table → Position → ℕ
run_length down asked table cell =
    length (take_while (λ n. are_alike asked table cell (moved down cell n)) (range_with_len (number down cell) (count_along down table - number down cell)))

-- the runs of two cells and more, each by its first cell and its length, in the row order of these
abbrev pub runs : Bool → (Position → Bool) → Table → List (Position × ℕ)
runs down asked table =
    filter (λ run. nat_lt 1 run.1) (map (λ cell. (cell, run_length down asked table cell)) (filter (begins down asked table) (cells_of Global (length table) (column_count table))))

-- the first cell of a run spans all of it
abbrev pub spanned_by : Bool → Position × ℕ → List ConfigEvent
spanned_by down run = if down then by_row_span run else by_column_span run

abbrev pub merged : Bool → List (Position × ℕ) → List ConfigEvent
merged down runs = flat_map (spanned_by down) runs
