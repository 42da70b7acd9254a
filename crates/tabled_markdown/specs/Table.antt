-- The text of a table in markdown.
use Rattle.std.specs.Prelude.{ℕ, List, [], ◌∷◌, ◌++◌, codes, map, slice_index_or}
use Rattle.std.specs.List.{flat_map, join_with_byte, range_with_len}
use Rattle.tabled_markdown.specs.declared.table.Side.{Side}
use Rattle.tabled_markdown.specs.declared.table.Side.TheVariants.{Plain, Left, Center, Right}
use Rattle.tabled_markdown.specs.Source.{escaped}

-- ---- what stands in so many columns

-- the cell of a row in a column, the empty text past its end
abbrev pub cell : List (List ℕ) → ℕ → List ℕ
cell row col = slice_index_or row col []

abbrev pub fitted : ℕ → List (List ℕ) → List (List ℕ)
fitted count row = map (cell row) (range_with_len 0 count)

-- where the texts of a column stand, no side past the end of those given
abbrev pub side : List Side → ℕ → Side
side sides col = slice_index_or sides col Plain

abbrev pub fitted_sides : ℕ → List Side → List Side
fitted_sides count sides = map (side sides) (range_with_len 0 count)

-- the word that says it
abbrev pub delimiter : Side → List ℕ
delimiter Plain = codes "---"
delimiter Left = codes ":--"
delimiter Center = codes ":-:"
delimiter Right = codes "--:"

-- ---- lines

-- a source between spaces, and the bar after it
abbrev pub in_cell : List ℕ → List ℕ
in_cell source = 32 ∷ (source ++ 32 ∷ 124 ∷ [])

abbrev pub line_of : List (List ℕ) → List ℕ
line_of sources = 124 ∷ flat_map in_cell sources

abbrev pub row_line : ℕ → List (List ℕ) → List ℕ
row_line count row = line_of (map escaped (fitted count row))

abbrev pub side_line : ℕ → List Side → List ℕ
side_line count sides = line_of (map delimiter (fitted_sides count sides))

-- the first row, where the columns' texts stand, and the other rows
abbrev pub table_lines : ℕ → List Side → List (List (List ℕ)) → List (List ℕ)
table_lines count sides [] = []
table_lines count sides (first ∷ more) = row_line count first ∷ side_line count sides ∷ map (row_line count) more

-- the text, with a line feed between two lines
unfoldable pub markdown : ℕ → List Side → List (List (List ℕ)) → List ℕ
markdown count sides rows = join_with_byte 10 (table_lines count sides rows)
