-- Nothing steers in what the program says of a refusal, and beside a table.
use Rattle.std.proofs.Common.{◌≡◌, ◌==◌, ℕ, Bool, true, false, not, if◌then◌else◌, Option, Some, None, List, [], ◌∷◌, ◌++◌, chars, codes, decimal, map, slice_index_or, refl, ap, ◌∙◌, lit<}
use Rattle.std.specs.List.{All, list_all, slice_split}
use Rattle.std.specs.Str.{IsUtf8}
use Rattle.std.proofs.Math.Utf8.{scalar, scalars}
use Rattle.std.proofs.lemmas.Bool.{and_from, and_parts, not_from_false}
use Rattle.std.proofs.lemmas.Str.{IsUtf8-nil, chars-encodes, scalars-chars}
use Rattle.tabled_clean.specs.Line.{cleaned_line, in_line}
use Rattle.tabled_clean.specs.Steering.{IsCleanText, cleaned, is_printable, steers, without_steering}
use Rattle.tabled_clean.proofs.LineLemmas.{characters_of_line}
use Rattle.tabled_clean.proofs.SteeringLemmas.{none_steers}
use Rattle.tabled_input.specs.declared.error.InputError.{InputError}
use Rattle.tabled_input.specs.declared.error.InputError.TheVariants as input
use Rattle.tabled_input.specs.declared.read.TheConstants.{INPUT_LIMIT}
use Rattle.tabled_request.specs.Columns.{is_comma}
use Rattle.tabled_request.specs.Options.{entry_of, name_of, option_near}
use Rattle.tabled_request.specs.declared.error.WordsError.{WordsError}
use Rattle.tabled_request.specs.declared.error.WordsError.TheVariants.{UnknownOption, NoValue, BadValue, SecondFile}
use Rattle.tabled_request.specs.declared.given.GivenError.{GivenError}
use Rattle.tabled_request.specs.declared.given.GivenError.TheVariants as given
use Rattle.tabled_request.specs.declared.options.OptionName.{OptionName}
use Rattle.tabled_request.specs.declared.options.OptionName.TheVariants as option
use Rattle.tabled_viewing.specs.Said.{from_one, noted, out_of_memory, quoted, said, said_of_cells, said_of_color, said_of_column, said_of_given, said_of_input, said_of_rows, said_of_width, said_of_words, values, word}
use Rattle.tabled_viewing.specs.Told.{is_unseen, seen, told}
use Rattle.tabled_viewing.specs.declared.error.ViewError.{ViewError}
use Rattle.tabled_viewing.specs.declared.error.ViewError.TheVariants.{Given, Words, OpenFailed, Input, UnequalRows, TooManyCells, UnknownColumn, OutOfMemory, WriteFailed}
use Rattle.tabled_viewing.specs.declared.notes.Notes.{Notes}
use Rattle.tabled_claims.proofs.CleanCharacters.{feed_steers}
use Rattle.tabled_program_claims.proofs.CleanLimits.{clean_both, clean_nil, clean_one}
use Rattle.tabled_program_claims.proofs.CleanPieces.{decimal_clean, printed}
use Rattle.tabled_program_claims.proofs.CleanViews.{stays_text}
use Rattle.tabled_program_claims.proofs.ReadTexts.{at_place}
use Rattle.tabled_input.proofs.SpacedTexts.{parts_are_texts}

-- ---- texts on a line

feed_pictured : (b : Bool) (c : ℕ) → steers c ≡ false → not (steers (if b then 0x240A else c)) ≡ true
unfolding steers
feed_pictured true c e = refl
feed_pictured false c e = not_from_false (steers c) e

quiet : (b : Bool) → not b ≡ true → b ≡ false
quiet true e = absurd cc
quiet false e = refl

all_pictured : (cs : List ℕ) → list_all (λ c. not (steers c)) cs ≡ true → list_all (λ c. not (steers c)) (map in_line cs) ≡ true
all_pictured [] e = refl
all_pictured (c ∷ cs) e =
    let parts = and_parts (not (steers c)) (list_all (λ c. not (steers c)) cs) e in
    and_from (not (steers (in_line c))) (list_all (λ c. not (steers c)) (map in_line cs)) (feed_pictured (c == 10) c (quiet (steers c) parts.0)) (all_pictured cs parts.1)

pictured_scalars : (cs : List ℕ) → scalars cs ≡ true → scalars (map in_line cs) ≡ true
pictured_scalars [] e = refl
pictured_scalars (c ∷ cs) e =
    let parts = and_parts (scalar c) (scalars cs) e in
    and_from (scalar (in_line c)) (scalars (map in_line cs)) (by (c == 10) parts.0) (pictured_scalars cs parts.1)
  where
    by : (b : Bool) → scalar c ≡ true → scalar (if b then 0x240A else c) ≡ true
    by true is = refl
    by false is = is

line_clean : (text : List ℕ) → IsUtf8 text → IsCleanText (cleaned_line text)
unfolding cleaned_line
line_clean text read = (
  (map in_line (chars (cleaned text)), (pictured_scalars (chars (cleaned text)) (scalars-chars (cleaned text) (stays_text text read)), refl)),
  ap (list_all (λ c. not (steers c))) (characters_of_line text read) ∙ all_pictured (without_steering (chars text)) (none_steers (chars text)),
)

-- with what is not seen shown

unseen_shown : (b : Bool) (c : ℕ) → not (steers c) ≡ true → not (steers (if b then 0xFFFD else c)) ≡ true
unfolding steers
unseen_shown true c e = refl
unseen_shown false c e = e

all_shown : (cs : List ℕ) → list_all (λ c. not (steers c)) cs ≡ true → list_all (λ c. not (steers c)) (map seen cs) ≡ true
all_shown [] e = refl
all_shown (c ∷ cs) e =
    let parts = and_parts (not (steers c)) (list_all (λ c. not (steers c)) cs) e in
    and_from (not (steers (seen c))) (list_all (λ c. not (steers c)) (map seen cs)) (unseen_shown (is_unseen c) c parts.0) (all_shown cs parts.1)

shown_scalars : (cs : List ℕ) → scalars cs ≡ true → scalars (map seen cs) ≡ true
shown_scalars [] e = refl
shown_scalars (c ∷ cs) e =
    let parts = and_parts (scalar c) (scalars cs) e in
    and_from (scalar (seen c)) (scalars (map seen cs)) (by (is_unseen c) parts.0) (shown_scalars cs parts.1)
  where
    by : (b : Bool) → scalar c ≡ true → scalar (if b then 0xFFFD else c) ≡ true
    by true is = refl
    by false is = is

told_clean : (text : List ℕ) → IsUtf8 text → IsCleanText (told text)
unfolding told
told_clean text read =
    let line = line_clean text read in
    let shown = shown_scalars (chars (cleaned_line text)) (scalars-chars (cleaned_line text) line.0) in (
      (map seen (chars (cleaned_line text)), (shown, refl)),
      ap (list_all (λ c. not (steers c))) (chars-encodes (map seen (chars (cleaned_line text))) shown) ∙ all_shown (chars (cleaned_line text)) line.1,
    )

quoted_clean : (text : List ℕ) → IsUtf8 text → IsCleanText (quoted text)
quoted_clean text read = clean_both (34 ∷ []) (told text ++ 34 ∷ []) (printed (34 ∷ []) refl) (clean_both (told text) (34 ∷ []) (told_clean text read) (printed (34 ∷ []) refl))

-- a printable text before another one
before : (text after : List ℕ) → list_all is_printable text ≡ true → IsCleanText after → IsCleanText (text ++ after)
before text after is clean = clean_both text after (printed text is) clean

number_before : (n : ℕ) (after : List ℕ) → IsCleanText after → IsCleanText (decimal n ++ after)
number_before n after clean = clean_both (decimal n) after (decimal_clean n) clean

-- ---- names and values of options

name_printable : (option : OptionName) → list_all is_printable (name_of option) ≡ true
unfolding entry_of
name_printable option.Style = refl
name_printable option.Separator = refl
name_printable option.Csv = refl
name_printable option.Spaces = refl
name_printable option.Header = refl
name_printable option.NoHeader = refl
name_printable option.Title = refl
name_printable option.Footer = refl
name_printable option.Left = refl
name_printable option.Center = refl
name_printable option.Right = refl
name_printable option.NoNumbers = refl
name_printable option.Width = refl
name_printable option.Wrap = refl
name_printable option.Truncate = refl
name_printable option.Terminal = refl
name_printable option.Color = refl
name_printable option.Stripes = refl
name_printable option.FrameColor = refl
name_printable option.Outline = refl
name_printable option.Mark = refl
name_printable option.Fill = refl
name_printable option.Columns = refl
name_printable option.Head = refl
name_printable option.RowNumbers = refl
name_printable option.Raw = refl
name_printable option.Help = refl
name_printable option.Version = refl
name_printable option.Styles = refl

values_printable : (option : OptionName) → list_all is_printable (values option) ≡ true
unfolding values
values_printable option.Style = refl
values_printable option.Separator = refl
values_printable option.Csv = refl
values_printable option.Spaces = refl
values_printable option.Header = refl
values_printable option.NoHeader = refl
values_printable option.Title = refl
values_printable option.Footer = refl
values_printable option.Left = refl
values_printable option.Center = refl
values_printable option.Right = refl
values_printable option.NoNumbers = refl
values_printable option.Width = refl
values_printable option.Wrap = refl
values_printable option.Truncate = refl
values_printable option.Terminal = refl
values_printable option.Color = refl
values_printable option.Stripes = refl
values_printable option.FrameColor = refl
values_printable option.Outline = refl
values_printable option.Mark = refl
values_printable option.Fill = refl
values_printable option.Columns = refl
values_printable option.Head = refl
values_printable option.RowNumbers = refl
values_printable option.Raw = refl
values_printable option.Help = refl
values_printable option.Version = refl
values_printable option.Styles = refl

-- ---- refusals

unknown_clean : (text : List ℕ) (near : Option OptionName) → IsUtf8 text
    → IsCleanText (elim near [
      | None ↦ told text ++ codes " is no option (--help shows them)"
      | Some option ↦ told text ++ (codes " is no option (perhaps " ++ (name_of option ++ codes "; --help shows them)"))
    ])
unknown_clean text None read = clean_both (told text) (codes " is no option (--help shows them)") (told_clean text read) (printed (codes " is no option (--help shows them)") refl)
unknown_clean text (Some option) read =
    clean_both (told text) (codes " is no option (perhaps " ++ (name_of option ++ codes "; --help shows them)")) (told_clean text read)
    (before (codes " is no option (perhaps ") (name_of option ++ codes "; --help shows them)") refl
    (before (name_of option) (codes "; --help shows them)") (name_printable option) (printed (codes "; --help shows them)") refl)))

module _ (words : List (List ℕ)) (all : All IsUtf8 words) where
  word_read : (n : ℕ) → IsUtf8 (word words n)
  word_read n = at_place IsUtf8 words IsUtf8-nil all n

  words_clean : (refusal : WordsError) → IsCleanText (said_of_words words refusal)
  words_clean (UnknownOption n) = unknown_clean (word words n) (option_near (word words n)) (word_read n)
  words_clean (NoValue option) =
      before (name_of option) (codes " has no value (" ++ (values option ++ codes ")")) (name_printable option)
      (before (codes " has no value (") (values option ++ codes ")") refl (before (values option) (codes ")") (values_printable option) (printed (codes ")") refl)))
  words_clean (BadValue option n) =
      clean_both (quoted (word words n)) (codes " is no value of " ++ (name_of option ++ (codes " (" ++ (values option ++ codes ")")))) (quoted_clean (word words n) (word_read n))
      (before (codes " is no value of ") (name_of option ++ (codes " (" ++ (values option ++ codes ")"))) refl
      (before (name_of option) (codes " (" ++ (values option ++ codes ")")) (name_printable option)
      (before (codes " (") (values option ++ codes ")") refl (before (values option) (codes ")") (values_printable option) (printed (codes ")") refl)))))
  words_clean (SecondFile n) =
      clean_both (quoted (word words n)) (codes " is a second file (one file is read, or standard input)") (quoted_clean (word words n) (word_read n))
      (printed (codes " is a second file (one file is read, or standard input)") refl)

memory_clean : IsCleanText out_of_memory
memory_clean = printed out_of_memory refl

given_clean : (refusal : GivenError) → IsCleanText (said_of_given refusal)
given_clean (given.Unreadable n) =
    before (codes "word ") (decimal (from_one n) ++ codes " is not UTF-8, or has more than 4096 bytes (give a shorter text, or the file by < FILE)") refl
    (number_before (from_one n) (codes " is not UTF-8, or has more than 4096 bytes (give a shorter text, or the file by < FILE)")
    (printed (codes " is not UTF-8, or has more than 4096 bytes (give a shorter text, or the file by < FILE)") refl))
given_clean given.OutOfMemory = memory_clean

input_clean : (refusal : InputError) → IsCleanText (said_of_input refusal)
input_clean input.ReadFailed = printed (codes "the input can't be read (is it a file?)") refl
input_clean input.TooLong =
    before (codes "the input has more than ") (decimal INPUT_LIMIT ++ codes " bytes (give less of it)") refl
    (number_before INPUT_LIMIT (codes " bytes (give less of it)") (printed (codes " bytes (give less of it)") refl))
input_clean (input.NotUtf8 line byte) =
    before (codes "line ") _ refl
    (number_before line (codes " is not UTF-8 at its byte " ++ (decimal byte ++ codes " (convert it, as by iconv -f LATIN1 -t UTF-8)"))
    (before (codes " is not UTF-8 at its byte ") (decimal byte ++ codes " (convert it, as by iconv -f LATIN1 -t UTF-8)") refl
    (number_before byte (codes " (convert it, as by iconv -f LATIN1 -t UTF-8)") (printed (codes " (convert it, as by iconv -f LATIN1 -t UTF-8)") refl))))
input_clean (input.OpenQuote line row) =
    before (codes "row ") _ refl
    (number_before row (codes " has a cell that begins with a quote on line " ++ (decimal line ++ codes ", which nothing ends (end it with a quote)"))
    (before (codes " has a cell that begins with a quote on line ") (decimal line ++ codes ", which nothing ends (end it with a quote)") refl
    (number_before line (codes ", which nothing ends (end it with a quote)") (printed (codes ", which nothing ends (end it with a quote)") refl))))
input_clean input.OutOfMemory = memory_clean

rows_clean : (row cells columns : ℕ) → IsCleanText (said_of_rows row cells columns)
rows_clean row cells columns =
    before (codes "row ") _ refl
    (number_before (from_one row) (codes " has " ++ (decimal cells ++ (codes " cells where row 1 has " ++ (decimal columns ++ codes " (--fill fills them)"))))
    (before (codes " has ") (decimal cells ++ (codes " cells where row 1 has " ++ (decimal columns ++ codes " (--fill fills them)"))) refl
    (number_before cells (codes " cells where row 1 has " ++ (decimal columns ++ codes " (--fill fills them)"))
    (before (codes " cells where row 1 has ") (decimal columns ++ codes " (--fill fills them)") refl
    (number_before columns (codes " (--fill fills them)") (printed (codes " (--fill fills them)") refl))))))

cells_clean : (rows columns : ℕ) → IsCleanText (said_of_cells rows columns)
cells_clean rows columns =
    before (codes "filled, ") _ refl
    (number_before rows (codes " rows of " ++ (decimal columns ++ (codes " cells have more than " ++ (decimal INPUT_LIMIT ++ codes " together (give less of the input)"))))
    (before (codes " rows of ") (decimal columns ++ (codes " cells have more than " ++ (decimal INPUT_LIMIT ++ codes " together (give less of the input)"))) refl
    (number_before columns (codes " cells have more than " ++ (decimal INPUT_LIMIT ++ codes " together (give less of the input)"))
    (before (codes " cells have more than ") (decimal INPUT_LIMIT ++ codes " together (give less of the input)") refl
    (number_before INPUT_LIMIT (codes " together (give less of the input)") (printed (codes " together (give less of the input)") refl))))))

column_clean : (text : List ℕ) (option : OptionName) (part : ℕ) → IsUtf8 text → IsCleanText (said_of_column text option part)
column_clean text option part read =
    let given = slice_index_or (slice_split is_comma text) part [] in
    clean_both (quoted given) (codes " of " ++ (name_of option ++ codes " is no column that is shown (give its heading, or its number)"))
    (quoted_clean given (at_place IsUtf8 (slice_split is_comma text) IsUtf8-nil (parts_are_texts 44 (lit< tt) text read) part))
    (before (codes " of ") (name_of option ++ codes " is no column that is shown (give its heading, or its number)") refl
    (before (name_of option) (codes " is no column that is shown (give its heading, or its number)") (name_printable option)
    (printed (codes " is no column that is shown (give its heading, or its number)") refl)))

pub said_clean : (words : List (List ℕ)) (refusal : ViewError) → All IsUtf8 words → IsCleanText (said words refusal)
said_clean words (Given refusal) all = given_clean refusal
said_clean words (Words refusal) all = words_clean words all refusal
said_clean words (OpenFailed n) all =
    clean_both (quoted (word words n)) (codes " can't be opened (name a file that is there and may be read)") (quoted_clean (word words n) (word_read words all n))
    (printed (codes " can't be opened (name a file that is there and may be read)") refl)
said_clean words (Input refusal) all = input_clean refusal
said_clean words (UnequalRows row cells columns) all = rows_clean row cells columns
said_clean words (TooManyCells rows columns) all = cells_clean rows columns
said_clean words (UnknownColumn option n part) all = column_clean (word words n) option part (word_read words all n)
said_clean words OutOfMemory all = memory_clean
said_clean words WriteFailed all = printed (codes "the output can't be written (is it closed, or full?)") refl

-- ---- notes, each of which ends in a line feed

feed_clean : IsCleanText (10 ∷ [])
feed_clean = clean_one 10 (lit< tt) feed_steers

width_clean : (missed : Option ℕ) → IsCleanText (said_of_width missed)
width_clean None = clean_nil
width_clean (Some width) =
    before (codes "tabled_view: the table is wider than ") (decimal width ++ (codes " columns (its columns can't be narrower; --columns chooses some)" ++ 10 ∷ [])) refl
    (number_before width (codes " columns (its columns can't be narrower; --columns chooses some)" ++ 10 ∷ [])
    (before (codes " columns (its columns can't be narrower; --columns chooses some)") (10 ∷ []) refl feed_clean))

color_clean : (lacks : Bool) → IsCleanText (said_of_color lacks)
color_clean true = before (codes "tabled_view: without color nothing is in color (--color always)") (10 ∷ []) refl feed_clean
color_clean false = clean_nil

pub noted_clean : (notes : Notes) → IsCleanText (noted notes)
noted_clean notes = clean_both (said_of_width notes.too_wide) (said_of_color notes.lacks_color) (width_clean notes.too_wide) (color_clean notes.lacks_color)
