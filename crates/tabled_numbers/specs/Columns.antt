-- Columns of numbers, in rows of texts.
use Rattle.std.specs.Prelude.{ℕ, Bool, ◌==◌, ◌&&◌, ◌||◌, List, [], ◌∷◌, codes, map, length, string_bytes, slice_index_or}
use Rattle.std.specs.List.{list_all, list_any}
use Rattle.std.specs.Str.{str_eq_ignore_ascii_case}
use Rattle.std.specs.declared.string.String.{String}
use Rattle.std.specs.declared.vec.Vec.{Vec}
use Rattle.tabled_numbers.specs.Numbers.{is_number}

-- the bytes of each cell of rows of texts
abbrev pub cells_of : {Z W : Type 0} → List (Vec (String Z) W) → List (List (List ℕ))
cells_of rows = map (λ row. map string_bytes row.items) rows

-- how many columns rows have: as many as the first one has cells
abbrev pub column_count : List (List (List ℕ)) → ℕ
column_count [] = 0
column_count (row ∷ rows) = length row

-- the cell of a row in a column, the empty text past its end
abbrev pub cell : List (List ℕ) → ℕ → List ℕ
cell row col = slice_index_or row col []

-- a word that says that there is no number, in large or small letters
unfoldable pub says_none : List ℕ → Bool
says_none text = list_any (str_eq_ignore_ascii_case text) (codes "-" ∷ codes "n/a" ∷ codes "null" ∷ codes "nan" ∷ [])

-- a number, or that there is none: nothing, or such a word
abbrev pub is_number_or_none : List ℕ → Bool
is_number_or_none text = (length text == 0) || is_number text || says_none text

-- whether each cell of a column is a number, or says that there is none, and one of them is a number
unfoldable pub is_numeric : List (List (List ℕ)) → ℕ → Bool
is_numeric rows col = list_all (λ row. is_number_or_none (cell row col)) rows && list_any (λ row. is_number (cell row col)) rows
