-- Records of a table that is to be.
use Rattle.std.specs.Prelude.{ℕ, ◌-◌, List, [], ◌++◌, map, length, replicate}
use Rattle.tabled_cells.specs.Placed.{greatest}
use Rattle.tabled_width.specs.Texts.{Table}
use Rattle.tabled_rows.specs.Rows.{filled_to, column_put}

-- how many columns records have: as many as the longest has texts
abbrev pub columns : Table → ℕ
columns records = greatest (map length records)

-- records with empty texts after theirs, so that they are all as long as the longest
abbrev pub filled : Table → Table
filled records = map (filled_to (columns records)) records

-- records, and records without texts after them, up to a number of them
abbrev pub padded : ℕ → Table → Table
padded count records = records ++ replicate (count - length records) []

-- records with a column put in, at least as many as it has texts
abbrev pub with_column : ℕ → List (List ℕ) → Table → Table
with_column index column records = column_put (columns records) index column (padded (length column) records)
