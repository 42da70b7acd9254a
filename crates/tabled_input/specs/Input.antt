-- What an input says: its rows of cells, and the first reason for which it is refused.
use Rattle.std.specs.Prelude.{ℕ, ◌+◌, not, ◌==◌, nat_lt, if◌then◌else◌, List, [], ◌∷◌, drop, length, take, Option, Some, None}
use Rattle.std.specs.List.{starts_with, suffix_len}
use Rattle.std.specs.Str.Lossy.{utf8_valid_len}
use Rattle.tabled_input.specs.Lines.{line_feeds, separated}
use Rattle.tabled_input.specs.Quoted.{csv_rows, has_open_quote, line_of_last}
use Rattle.tabled_input.specs.Spaced.{spaced}
use Rattle.tabled_input.specs.declared.quoted.CsvError.{CsvError}
use Rattle.tabled_input.specs.declared.quoted.CsvError.TheVariants as csv
use Rattle.tabled_input.specs.declared.error.InputError.{InputError}
use Rattle.tabled_input.specs.declared.error.InputError.TheVariants.{TooLong, NotUtf8, OpenQuote, OutOfMemory}
use Rattle.tabled_input.specs.declared.read.TheConstants.{INPUT_LIMIT}
use Rattle.tabled_input.specs.declared.rows.Cells.{Cells}
use Rattle.tabled_input.specs.declared.rows.Cells.TheVariants.{Separated, Quoted, Spaced}

-- an input without one byte order mark at its start, U+FEFF in UTF-8
unfoldable pub without_mark : List ℕ → List ℕ
without_mark input = if starts_with (λ a b. a == b) input (239 ∷ 187 ∷ 191 ∷ []) then drop 3 input else input

-- the rows of a text, and those of an input
abbrev pub rows_of_text : Cells → List ℕ → List (List (List ℕ))
rows_of_text (Separated separator) text = separated separator text
rows_of_text (Quoted separator) text = csv_rows separator text
rows_of_text Spaced text = spaced text

abbrev pub rows_in : Cells → List ℕ → List (List (List ℕ))
rows_in cells input = rows_of_text cells (without_mark input)

-- the rows of an input that is held as a text, of which a mark is no part, or as the rows of CSV
abbrev pub rows_held : Cells → List ℕ → List (List (List ℕ)) → List (List (List ℕ))
rows_held (Separated separator) text quoted = rows_of_text (Separated separator) (without_mark text)
rows_held (Quoted separator) text quoted = quoted
rows_held Spaced text quoted = rows_of_text Spaced (without_mark text)

-- the line of the byte after these, and its number in the line: both are counted from 1, and a line feed ends a line
abbrev pub line_after : List ℕ → ℕ
line_after bytes = line_feeds bytes + 1

abbrev pub byte_after : List ℕ → ℕ
byte_after bytes = suffix_len (λ b. not (b == 10)) bytes + 1

-- the refusal of bytes that are no text of UTF-8: where the longest text that they begin with ends
abbrev pub not_utf8 : List ℕ → InputError
not_utf8 bytes = NotUtf8 (line_after (take (utf8_valid_len bytes) bytes)) (byte_after (take (utf8_valid_len bytes) bytes))

-- why a text has no rows: a cell has no quote that ends it
abbrev pub fault_of_text : Cells → List ℕ → Option InputError
fault_of_text (Separated separator) text = None
fault_of_text Spaced text = None
fault_of_text (Quoted separator) text = if has_open_quote separator text then Some (OpenQuote (line_of_last text (csv_rows separator text)) (length (csv_rows separator text))) else None

-- the first reason for which an input is refused
unfoldable pub fault_of : Cells → List ℕ → Option InputError
fault_of cells input =
    if nat_lt INPUT_LIMIT (length input) then Some TooLong
    else if not (utf8_valid_len input == length input) then Some (not_utf8 input)
    else fault_of_text cells (without_mark input)

-- what a refusal of CSV is for an input
abbrev pub of_csv : CsvError → InputError
of_csv (csv.OpenQuote line row) = OpenQuote line row
of_csv csv.OutOfMemory = OutOfMemory
