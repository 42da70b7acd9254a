-- What the program says of a refusal, in one line.
use Rattle.std.specs.List.{slice_split}
use Rattle.std.specs.Prelude.{ℕ, ◌+◌, ◌-◌, ◌^◌, Bool, if◌then◌else◌, min, List, [], ◌∷◌, ◌++◌, codes, decimal, slice_index_or, Option, Some, None}
use Rattle.tabled_input.specs.declared.error.InputError.{InputError}
use Rattle.tabled_input.specs.declared.error.InputError.TheVariants as input
use Rattle.tabled_input.specs.declared.read.TheConstants.{INPUT_LIMIT}
use Rattle.tabled_request.specs.declared.given.GivenError.{GivenError}
use Rattle.tabled_request.specs.declared.given.GivenError.TheVariants as given
use Rattle.tabled_request.specs.declared.error.WordsError.{WordsError}
use Rattle.tabled_request.specs.declared.error.WordsError.TheVariants.{UnknownOption, NoValue, BadValue, SecondFile}
use Rattle.tabled_request.specs.declared.options.OptionName.{OptionName}
use Rattle.tabled_request.specs.declared.options.OptionName.TheVariants as option
use Rattle.tabled_request.specs.Columns.{is_comma}
use Rattle.tabled_request.specs.Options.{name_of, option_near}
use Rattle.tabled_viewing.specs.Told.{told}
use Rattle.tabled_viewing.specs.declared.error.ViewError.{ViewError}
use Rattle.tabled_viewing.specs.declared.notes.Notes.{Notes}
use Rattle.tabled_viewing.specs.declared.error.ViewError.TheVariants.{Given, Words, OpenFailed, Input, UnequalRows, TooManyCells, UnknownColumn, OutOfMemory, WriteFailed}

-- the word of that number, the empty text past the last
abbrev pub word : List (List ℕ) → ℕ → List ℕ
word words n = slice_index_or words n []

-- a text on one line, between quotes
abbrev pub quoted : List ℕ → List ℕ
quoted text = 34 ∷ (told text ++ 34 ∷ [])

-- a number that is counted from 0, counted from 1, as far as numbers go
abbrev pub from_one : ℕ → ℕ
from_one n = min (n + 1) (2 ^ 64 - 1)

-- what the value of an option may be
unfoldable pub values : OptionName → List ℕ
values option.Style = codes "the name of a style, which --styles shows"
values option.Separator = codes "one character of ASCII, or \\t or \\0, but no quote and no line end"
values option.Title = codes "a text without a line feed"
values option.Footer = codes "a text without a line feed"
values option.Left = codes "headings, or numbers of columns from 1 on, as name,3-5"
values option.Center = codes "headings, or numbers of columns from 1 on, as name,3-5"
values option.Right = codes "headings, or numbers of columns from 1 on, as name,3-5"
values option.Columns = codes "headings, or numbers of columns from 1 on, as name,3-5"
values option.Head = codes "a number"
values option.Width = codes "a number from 1 on"
values option.Color = codes "auto, always or never"
values option.FrameColor = codes "black, red, green, yellow, blue, magenta, cyan or white"
values option.Outline = codes "rows and columns from 1 on, or * for all, as 2:3,4:*"
values option.Mark = codes "the text of cells"
values other = codes "nothing"

-- of a word that names no option, with the one that is near it, of an option without its value, of a word that is no value of an option, and of a
-- second file
abbrev pub said_of_unknown : List ℕ → List ℕ
said_of_unknown word =
    elim (option_near word) [
      | None ↦ told word ++ codes " is no option (--help shows them)"
      | Some option ↦ told word ++ (codes " is no option (perhaps " ++ (name_of option ++ codes "; --help shows them)"))
    ]

abbrev pub said_of_no_value : OptionName → List ℕ
said_of_no_value option = name_of option ++ (codes " has no value (" ++ (values option ++ codes ")"))

abbrev pub said_of_bad_value : List ℕ → OptionName → List ℕ
said_of_bad_value word option =
    quoted word ++ (codes " is no value of " ++ (name_of option ++ (codes " (" ++ (values option ++ codes ")"))))

abbrev pub said_of_second_file : List ℕ → List ℕ
said_of_second_file word = quoted word ++ codes " is a second file (one file is read, or standard input)"

-- of words
abbrev pub said_of_words : List (List ℕ) → WordsError → List ℕ
said_of_words words (UnknownOption n) = said_of_unknown (word words n)
said_of_words words (NoValue option) = said_of_no_value option
said_of_words words (BadValue option n) = said_of_bad_value (word words n) option
said_of_words words (SecondFile n) = said_of_second_file (word words n)

-- where memory was refused
abbrev pub out_of_memory : List ℕ
out_of_memory = codes "memory was refused (give less of the input)"

-- of words that can't be read
abbrev pub said_of_given : GivenError → List ℕ
said_of_given (given.Unreadable n) =
    codes "word " ++ (decimal (from_one n) ++ codes " is not UTF-8, or has more than 4096 bytes (give a shorter text, or the file by < FILE)")
said_of_given given.OutOfMemory = out_of_memory

-- of an input
abbrev pub said_of_input : InputError → List ℕ
said_of_input input.ReadFailed = codes "the input can't be read (is it a file?)"
said_of_input input.TooLong = codes "the input has more than " ++ (decimal INPUT_LIMIT ++ codes " bytes (give less of it)")
said_of_input (input.NotUtf8 line byte) =
    codes "line " ++ (decimal line ++ (codes " is not UTF-8 at its byte " ++ (decimal byte ++ codes " (convert it, as by iconv -f LATIN1 -t UTF-8)")))
said_of_input (input.OpenQuote line row) =
    codes "row " ++ (decimal row ++ (codes " has a cell that begins with a quote on line " ++ (decimal line
    ++ codes ", which nothing ends (end it with a quote)")))
said_of_input input.OutOfMemory = out_of_memory

-- of rows of unlike length
abbrev pub said_of_rows : ℕ → ℕ → ℕ → List ℕ
said_of_rows row cells columns =
    codes "row " ++ (decimal (from_one row) ++ (codes " has " ++ (decimal cells
    ++ (codes " cells where row 1 has " ++ (decimal columns ++ codes " (--fill fills them)")))))

-- of rows that have too many cells once they are filled
abbrev pub said_of_cells : ℕ → ℕ → List ℕ
said_of_cells rows columns =
    codes "filled, " ++ (decimal rows ++ (codes " rows of " ++ (decimal columns
    ++ (codes " cells have more than " ++ (decimal INPUT_LIMIT ++ codes " together (give less of the input)")))))

-- of a part of a word that names no column
abbrev pub said_of_column : List ℕ → OptionName → ℕ → List ℕ
said_of_column word option part =
    quoted (slice_index_or (slice_split is_comma word) part []) ++ (codes " of " ++ (name_of option ++ codes " is no column that is shown (give its heading, or its number)"))

-- of a file that can't be opened, and where the output can't be written
abbrev pub said_of_file : List ℕ → List ℕ
said_of_file name = quoted name ++ codes " can't be opened (name a file that is there and may be read)"

abbrev pub write_failed : List ℕ
write_failed = codes "the output can't be written (is it closed, or full?)"

-- of any refusal
abbrev pub said : List (List ℕ) → ViewError → List ℕ
said words (Given refusal) = said_of_given refusal
said words (Words refusal) = said_of_words words refusal
said words (OpenFailed n) = said_of_file (word words n)
said words (Input refusal) = said_of_input refusal
said words (UnequalRows row cells columns) = said_of_rows row cells columns
said words (TooManyCells rows columns) = said_of_cells rows columns
said words (UnknownColumn option n part) = said_of_column (word words n) option part
said words OutOfMemory = out_of_memory
said words WriteFailed = write_failed

-- what is said beside a table that is shown, each on a line of its own
abbrev pub said_of_width : Option ℕ → List ℕ
said_of_width None = []
said_of_width (Some width) = codes "tabled_view: the table is wider than " ++ (decimal width ++ codes " columns (its columns can't be narrower; --columns chooses some)\n")

abbrev pub said_of_color : Bool → List ℕ
said_of_color lacks = if lacks then codes "tabled_view: without color nothing is in color (--color always)\n" else []

abbrev pub noted : Notes → List ℕ
noted notes = said_of_width notes.too_wide ++ said_of_color notes.lacks_color
