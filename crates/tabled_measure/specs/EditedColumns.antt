-- Columns that are put into a table of texts, and taken out.
use Rattle.std.specs.Prelude.{ℕ, max, ◌==◌, ◌||◌, nat_lt, Bool, if◌then◌else◌, Option, Some, None, List, [], map, length, slice_index, slice_index_or}
use Rattle.std.specs.List.{insert, remove}
use Rattle.tabled_object.specs.Entities.{below}
use Rattle.tabled_width.specs.Texts.{Table}
use Rattle.tabled_measure.specs.Sizes.{cell, column_count, height_asked}

-- whether a column has as many cells as a table has rows, if it has any
abbrev pub column_goes_in : List (List ℕ) → Table → Bool
column_goes_in column table = (length table == 0) || (length column == length table)

-- a table with a column put in: each row has the text of its number at the index. In a table without rows each text is a row
unfoldable pub with_column : ℕ → List (List ℕ) → Table → Table
with_column index column table = map (λ row. insert (slice_index_or table row []) index (cell column row)) (below (length column))

-- a table with a column taken out
unfoldable pub without_column : ℕ → Table → Table
without_column index table = map (λ row. remove row index) table

-- the texts of a column, if a table has it
unfoldable pub column_at : ℕ → Table → Option (List (List ℕ))
column_at index table = if nat_lt index (column_count table) then Some (map (λ row. cell row index) table) else None

-- how high rows are that were so high, with a column more
abbrev pub heights_with : List ℕ → List (List ℕ) → List ℕ
heights_with heights column = map (λ row. max (slice_index heights row) (height_asked (cell column row))) (below (length column))
