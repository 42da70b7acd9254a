-- Rows of texts, with a column more or less.
use Rattle.std.specs.Prelude.{ℕ, ◌-◌, ◌<◌, max, List, [], ◌++◌, map, length, replicate, slice_index_or, string_bytes, vec_len, vec_capacity}
use Rattle.std.specs.List.{insert, range_with_len}
use Rattle.std.specs.declared.string.String.{String}
use Rattle.std.specs.declared.vec.Vec.{Vec}

-- the texts of rows
abbrev pub row_texts : {Z W : Type 0} → List (Vec (String Z) W) → List (List (List ℕ))
row_texts rows = map (λ row. map string_bytes row.items) rows

-- a row, with empty texts after it up to a number of them
unfoldable pub filled_to : ℕ → List (List ℕ) → List (List ℕ)
filled_to width row = row ++ replicate (width - length row) []

-- a column's texts, put into rows that are filled up to a number of texts: into each the one of its number, or an empty one
unfoldable pub column_put : ℕ → ℕ → List (List ℕ) → List (List (List ℕ)) → List (List (List ℕ))
column_put width index column rows =
    map (λ row. insert (filled_to width (slice_index_or rows row [])) index (slice_index_or column row [])) (range_with_len 0 (length rows))

-- each row has room for texts up to a number of them, and for one more
abbrev pub HasRoom : {Z W : Type 0} → ℕ → List (Vec (String Z) W) → Type 0
HasRoom {Z} {W} width rows = (n : ℕ) (none : Vec (String Z) W) → n < length rows → max width (vec_len (slice_index_or rows n none)) < vec_capacity (slice_index_or rows n none)
