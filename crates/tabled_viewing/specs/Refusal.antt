-- Why the program shows no table, and the status that it ends with.
use Rattle.std.specs.Prelude.{ℕ, ◌*◌, nat_lt, if◌then◌else◌, List, [], ◌∷◌, length, slice_get, slice_index_or, Option, Some, None, option_map, unwrap_or}
use Rattle.std.specs.Option.{option_or}
use Rattle.tabled_input.specs.declared.error.InputError.{InputError}
use Rattle.tabled_input.specs.declared.error.InputError.TheVariants as input
use Rattle.tabled_input.specs.Input.{rows_in}
use Rattle.tabled_input.specs.Input as bytes
use Rattle.tabled_input.specs.declared.read.TheConstants.{INPUT_LIMIT}
use Rattle.tabled_builder.specs.Records.{columns}
use Rattle.tabled_request.specs.declared.given.GivenError.{GivenError}
use Rattle.tabled_request.specs.declared.given.GivenError.TheVariants as given
use Rattle.tabled_request.specs.declared.error.WordsError.TheVariants.{BadValue}
use Rattle.tabled_request.specs.declared.options.OptionName.{OptionName}
use Rattle.tabled_request.specs.declared.options.OptionName.TheVariants.{Center, Columns, Left, Right, Style}
use Rattle.tabled_request.specs.Columns.{unknown_part}
use Rattle.tabled_request.specs.Sides.{headings_of}
use Rattle.tabled_request.specs.declared.request.Request.{Request}
use Rattle.tabled_request.specs.declared.surroundings.Surroundings.{Surroundings}
use Rattle.tabled_style.specs.declared.ready_style.ReadyStyle.{ReadyStyle}
use Rattle.tabled_width.specs.Texts.{Table}
use Rattle.tabled_measure.specs.Sizes.{column_count, unequal_row}
use Rattle.tabled_viewing.specs.declared.error.ViewError.{ViewError}
use Rattle.tabled_viewing.specs.declared.error.ViewError.TheVariants.{Given, Words, OpenFailed, Input, UnequalRows, TooManyCells, UnknownColumn, OutOfMemory, WriteFailed}
use Rattle.tabled_viewing.specs.Asked.{cells_asked, style_asked}
use Rattle.tabled_viewing.specs.Rows.{rows_shown, rows_taken}

-- a refusal of words or of an input, where one of memory stays one of memory
abbrev pub of_given : GivenError → ViewError
of_given (given.Unreadable word) = Given (given.Unreadable word)
of_given given.OutOfMemory = OutOfMemory

abbrev pub of_input : InputError → ViewError
of_input input.ReadFailed = Input input.ReadFailed
of_input input.TooLong = Input input.TooLong
of_input (input.NotUtf8 line byte) = Input (input.NotUtf8 line byte)
of_input (input.OpenQuote line row) = Input (input.OpenQuote line row)
of_input input.OutOfMemory = OutOfMemory

-- the word for the style names none
abbrev pub unknown_style : Request → ViewError
unknown_style request = Words (BadValue Style (unwrap_or request.style 0))

abbrev pub fault_of_style : Request → Option ReadyStyle → Option ViewError
fault_of_style request None = Some (unknown_style request)
fault_of_style request (Some style) = None

-- the first row of a table that has more or fewer cells than its first
abbrev pub unequal : Table → ℕ → ViewError
unequal rows row = UnequalRows row (length (slice_index_or rows row [])) (column_count rows)

-- rows that have more cells, once they are filled, than an input may have bytes
abbrev pub fault_of_filled : Table → Option ViewError
fault_of_filled rows = if nat_lt INPUT_LIMIT (length rows * columns rows) then Some (TooManyCells (length rows) (columns rows)) else None

abbrev pub fault_of_counts : Request → Table → Option ViewError
fault_of_counts request rows = if request.fills then fault_of_filled rows else option_map (unequal rows) (unequal_row rows)

-- a word that names columns of these rows has a part that names none of them: the first such part
abbrev pub fault_of_columns : Request → List (List ℕ) → Table → OptionName → Option ℕ → Option ViewError
fault_of_columns request words rows option None = None
fault_of_columns request words rows option (Some n) =
    elim (slice_get words n) [ None ↦ None | Some word ↦ option_map (UnknownColumn option n) (unknown_part word (headings_of request rows) (column_count rows)) ]

-- the words that say where cells stand, in the order of these options
abbrev pub fault_of_sides : Request → List (List ℕ) → Table → Option ViewError
fault_of_sides request words rows =
    option_or (fault_of_columns request words rows Left request.left)
    (option_or (fault_of_columns request words rows Center request.center) (fault_of_columns request words rows Right request.right))

-- the first reason for which rows are refused: how many cells they have, the columns that are to be shown, and where those that are shown stand
abbrev pub fault_of_any : Request → List (List ℕ) → Table → Option ViewError
fault_of_any request words rows =
    option_or (fault_of_counts request rows)
    (option_or (fault_of_columns request words (rows_taken request rows) Columns request.columns) (fault_of_sides request words (rows_shown request words rows)))

abbrev pub fault_of_rows : Request → List (List ℕ) → Table → Option ViewError
fault_of_rows request words [] = None
fault_of_rows request words (row ∷ rows) = fault_of_any request words (row ∷ rows)

-- the first reason for which an input is refused: that of its bytes, then that of its rows
unfoldable pub fault_of_input : Request → List (List ℕ) → List ℕ → Option ViewError
fault_of_input request words input =
    option_or (option_map of_input (bytes.fault_of (cells_asked request words) input)) (fault_of_rows request words (rows_in (cells_asked request words) input))

-- the first reason for which no table is shown: the name of the style, then the input
abbrev pub fault_of : Request → List (List ℕ) → Surroundings → List ℕ → Option ViewError
fault_of request words around input = option_or (fault_of_style request (style_asked request words around)) (fault_of_input request words input)

-- the status that the program ends with
abbrev pub status_of_given : GivenError → ℕ
status_of_given (given.Unreadable word) = 2
status_of_given given.OutOfMemory = 1

abbrev pub status_of_input : InputError → ℕ
status_of_input input.ReadFailed = 1
status_of_input input.TooLong = 5
status_of_input (input.NotUtf8 line byte) = 4
status_of_input (input.OpenQuote line row) = 4
status_of_input input.OutOfMemory = 1

abbrev pub status_of : ViewError → ℕ
status_of (Given refusal) = status_of_given refusal
status_of (Words refusal) = 2
status_of (OpenFailed word) = 1
status_of (Input refusal) = status_of_input refusal
status_of (UnequalRows row cells columns) = 3
status_of (TooManyCells rows columns) = 5
status_of (UnknownColumn option word part) = 2
status_of OutOfMemory = 1
status_of WriteFailed = 1
