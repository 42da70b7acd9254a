-- Rows that are put into a table of texts, and texts that are replaced.
use Rattle.std.specs.Prelude.{ℕ, max, ◌==◌, ◌||◌, Bool, Option, List, [], map, length, slice_get, slice_index, slice_index_or, slice_set}
use Rattle.tabled_object.specs.Entities.{below}
use Rattle.tabled_width.specs.Texts.{Table}
use Rattle.tabled_measure.specs.Sizes.{cell, column_count, width_asked}

-- whether a row has as many cells as those of a table, if it has any
abbrev pub goes_in : List (List ℕ) → Table → Bool
goes_in row table = (length table == 0) || (length row == column_count table)

-- how wide columns are that were so wide, with a row more
abbrev pub widths_with : List ℕ → List (List ℕ) → List ℕ
widths_with widths row = map (λ col. max (slice_index widths col) (width_asked (cell row col))) (below (length row))

-- a table with another text in a cell, if it has that cell
abbrev pub text_set : ℕ → ℕ → List ℕ → Table → Table
text_set row col text table = slice_set table row (slice_set (slice_index_or table row []) col text)

-- the text of a cell, if a table has that cell
abbrev pub text_at : ℕ → ℕ → Table → Option (List ℕ)
text_at row col table = slice_get (slice_index_or table row []) col
