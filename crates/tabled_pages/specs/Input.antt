-- What an input says: its lines, its rows of cells, and the first reason for which it is refused.
use Rattle.std.specs.Prelude.{ℕ, Bool, not, nat_lt, ◌==◌, ◌||◌, if◌then◌else◌, List, [], ◌∷◌, map, length, Option, Some, None}
use Rattle.std.specs.Int.{is_in_range}
use Rattle.std.specs.List.{slice_split, list_all}
use Rattle.tabled_width.specs.Texts.{Table}
use Rattle.tabled_measure.specs.Sizes.{column_count}
use Rattle.tabled_pages.specs.declared.bytes.TheConstants.{TAB, LINE_FEED, FIRST_PRINTABLE, LAST_PRINTABLE}
use Rattle.tabled_pages.specs.declared.read.TheConstants.{INPUT_LIMIT}
use Rattle.tabled_pages.specs.declared.error.ShowError.{ShowError}
use Rattle.tabled_pages.specs.declared.error.ShowError.TheVariants.{TooLong, ByteOutOfRange, UnequalRows}

-- the test for one byte
abbrev pub is_byte : ℕ → ℕ → Bool
is_byte byte = λ b. b == byte

-- the pieces of a text between the bytes that are `byte`
abbrev pub pieces : ℕ → List ℕ → List (List ℕ)
pieces byte text = slice_split (is_byte byte) text

-- the pieces, without the last one if that is empty
abbrev pub without_empty_last : List (List ℕ) → List (List ℕ)
without_empty_last [] = []
without_empty_last ([] ∷ []) = []
without_empty_last (piece ∷ more) = piece ∷ without_empty_last more

-- the lines of an input: it is cut at line feeds, and one at its end ends the last line
unfoldable pub lines_of : List ℕ → List (List ℕ)
lines_of input = without_empty_last (pieces LINE_FEED input)

-- the cells of a line: it is cut at tabs
abbrev pub cells_of : List ℕ → List (List ℕ)
cells_of line = pieces TAB line

-- the rows of an input: the cells of each line
abbrev pub rows_of : List ℕ → Table
rows_of input = map cells_of (lines_of input)

-- a printable character of ASCII, a tab or a line feed
abbrev pub is_allowed : ℕ → Bool
is_allowed b = is_in_range FIRST_PRINTABLE LAST_PRINTABLE b || (b == TAB) || (b == LINE_FEED)

-- every row has as many cells as the first
abbrev pub have_equal_counts : Table → Bool
have_equal_counts rows = list_all (λ row. length row == column_count rows) rows

-- the first reason for which an input is refused
unfoldable pub fault_of : List ℕ → Option ShowError
fault_of input =
    if nat_lt INPUT_LIMIT (length input) then Some TooLong
    else if not (list_all is_allowed input) then Some ByteOutOfRange
    else if not (have_equal_counts (rows_of input)) then Some UnequalRows
    else None
