-- What the words after the program's name ask for.
use Rattle.std.specs.Prelude.{ℕ, ◌+◌, Bool, true, false, not, ◌==◌, ◌&&◌, if◌then◌else◌, List, [], ◌∷◌, ◌++◌, codes, slice_index, slice_get, Option, Some, None, Result, Ok, Err}
use Rattle.std.specs.List.{list_any, before_first, after_first}
use Rattle.std.specs.Str.{bytes_eq}
use Rattle.tabled_request.specs.declared.options.OptionName.{OptionName}
use Rattle.tabled_request.specs.declared.error.WordsError.{WordsError}
use Rattle.tabled_request.specs.declared.error.WordsError.TheVariants.{UnknownOption, NoValue, BadValue, SecondFile}
use Rattle.tabled_request.specs.declared.request.Request.{Request}
use Rattle.tabled_request.specs.declared.request.Shows.TheVariants as shows
use Rattle.tabled_request.specs.declared.request.When.TheVariants as when
use Rattle.tabled_request.specs.declared.spread.Next.{Next}
use Rattle.tabled_request.specs.declared.spread.Next.TheVariants.{Any, Value, File}
use Rattle.tabled_request.specs.declared.words.Reading.{Reading}
use Rattle.tabled_request.specs.Options.{entry_of, is_equals, name_of, option_named, takes_value}

-- what no words ask for
abbrev pub first_request : Request
first_request = record {
  shows = shows.Table;
  file = None;
  style = None;
  separator = None;
  form = None;
  has_header = true;
  title = None;
  footer = None;
  left = None;
  center = None;
  right = None;
  finds_numbers = true;
  width = None;
  cuts_off = false;
  fits_terminal = false;
  color = when.Auto;
  has_stripes = false;
  frame_color = None;
  outline = None;
  mark = None;
  fills = false;
  columns = None;
  head = None;
  has_row_numbers = false;
  is_raw = false;
}

-- what the word after one is: the value of the option that it names, a file after two dashes, or else any word
abbrev pub after : Next → List ℕ → Next
after Any word =
    if bytes_eq word (codes "--") then File
    else elim (option_named word) [ None ↦ Any | Some option ↦ if takes_value option then Value option else Any ]
after (Value option) word = Any
after File word = File

-- whether an option of that name takes a value, so that a word is two in one: the name, and after an equals sign the value
abbrev pub is_before_value : List ℕ → Bool
is_before_value word = elim (option_named word) [ None ↦ false | Some option ↦ takes_value option && bytes_eq (name_of option) word ]

-- the words that a word is, and all words as if each that is two in one stood as two: no value is, and nothing after two dashes
abbrev pub parts : Next → List ℕ → List (List ℕ)
parts Any word =
    if list_any is_equals word && is_before_value (before_first is_equals word)
    then before_first is_equals word ∷ after_first is_equals word ∷ [] else word ∷ []
parts other word = word ∷ []

unfoldable pub spread : Next → List (List ℕ) → List (List ℕ)
spread next [] = []
spread next (word ∷ words) = parts next word ++ spread (after next word) words

-- an option, set by the word of the number n: its value, or the option itself
abbrev pub with_option : OptionName → ℕ → List ℕ → Reading → Result Reading WordsError
with_option option n word reading =
    elim ((entry_of option).sets n word reading.request) [ None ↦ Err (BadValue option n) | Some request ↦ Ok (record reading { request = request }) ]

-- a file; a dash alone is standard input, as if no file were named
abbrev pub with_file : ℕ → List ℕ → Reading → Result Reading WordsError
with_file n word reading =
    if reading.has_file then Err (SecondFile n)
    else Ok (record { request = if bytes_eq word (codes "-") then reading.request else record reading.request { file = Some n }; has_file = true })

-- the word of the number n: a value; a file; or else an option, which waits for its value if it takes one, two dashes, or a file, which does
-- not begin with a dash unless it is one
abbrev pub with_word : Next → ℕ → List ℕ → Reading → Result Reading WordsError
with_word Any n word reading =
    elim (option_named word) [
      | Some option ↦ if takes_value option then Ok reading else with_option option n word reading
      | None ↦
          if bytes_eq word (codes "--") then Ok reading
          else if (slice_index word 0 == 45) && not (bytes_eq word (codes "-")) then Err (UnknownOption n)
          else with_file n word reading
    ]
with_word (Value option) n word reading = with_option option n word reading
with_word File n word reading = with_file n word reading

-- what is asked for at the end, where no value is missing
abbrev pub at_end : Next → Request → Result Request WordsError
at_end (Value option) request = Err (NoValue option)
at_end other request = Ok request

-- further words, the first of which has the number n
unfoldable pub words_read : Next → Reading → ℕ → List (List ℕ) → Result Request WordsError
words_read next reading n [] = at_end next reading.request
words_read next reading n (word ∷ words) =
    elim (with_word next n word reading) [
      | Ok more ↦ words_read (after next word) more (n + 1) words
      | Err e ↦ Err e
    ]

-- what words ask for, or which of them is wrong
unfoldable pub request_of : List (List ℕ) → Result Request WordsError
request_of words = words_read Any (record { request = first_request; has_file = false }) 0 words

-- the word that an option names by its number, if it does
abbrev pub word_at : List (List ℕ) → Option ℕ → Option (List ℕ)
word_at words None = None
word_at words (Some n) = slice_get words n
