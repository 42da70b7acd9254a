-- Which rows and columns of a table are shown, and the numbers of its rows.
use Rattle.std.specs.Prelude.{ℕ, ◌==◌, Bool, if◌then◌else◌, List, [], ◌∷◌, codes, decimal, length, map, slice_index_or}
use Rattle.std.specs.List.{range_with_len}

-- the cells of these columns, in that order: the empty text where a row has no such cell
abbrev pub selected_row : List ℕ → List (List ℕ) → List (List ℕ)
selected_row columns row = map (λ col. slice_index_or row col []) columns

abbrev pub selected : List ℕ → List (List (List ℕ)) → List (List (List ℕ))
selected columns rows = map (selected_row columns) rows

-- the number of a row in decimal digits, and that of a header, which is row 0
abbrev pub number_text : ℕ → List ℕ
number_text row = if row == 0 then codes "#" else decimal row

-- the numbers of so many rows, from 1 on, below a header if there is one
abbrev pub first_number : Bool → ℕ
first_number has_header = if has_header then 0 else 1

abbrev pub row_numbers : Bool → ℕ → List (List ℕ)
row_numbers has_header rows = map number_text (range_with_len (first_number has_header) rows)

-- a text before the cells of each row
abbrev pub with_before : List (List ℕ) → List (List (List ℕ)) → List (List (List ℕ))
with_before [] rows = rows
with_before (text ∷ texts) [] = []
with_before (text ∷ texts) (cells ∷ rows) = (text ∷ cells) ∷ with_before texts rows

-- rows with their numbers before their cells
abbrev pub numbered : Bool → List (List (List ℕ)) → List (List (List ℕ))
numbered has_header rows = with_before (row_numbers has_header (length rows)) rows
