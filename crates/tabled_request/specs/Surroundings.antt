-- What the surroundings say, by what variables hold, each of which may not be set.
use Rattle.std.specs.Prelude.{ℕ, Bool, true, false, ◌||◌, if◌then◌else◌, List, [], ◌∷◌, codes, length, take, Option, Some, None, option_copied}
use Rattle.std.specs.Str.{str_eq_ignore_ascii_case}
use Rattle.tabled_request.specs.Numerals.{from_one, number_of}
use Rattle.tabled_request.specs.declared.surroundings.Surroundings.{Surroundings}
use Rattle.tabled_request.specs.declared.surroundings.Variables.{Variables}

-- whether a variable is set and not empty
abbrev pub is_told : Option (List ℕ) → Bool
is_told None = false
is_told (Some []) = false
is_told (Some (b ∷ bs)) = true

-- the first of two values, or where it is not set, or empty, the other one
abbrev pub or_else : Option (List ℕ) → Option (List ℕ) → Option (List ℕ)
or_else first next = if is_told first then first else next

-- whether a text begins with a name, in large or small letters
abbrev pub begins_with : List ℕ → List ℕ → Bool
begins_with text name = str_eq_ignore_ascii_case (take (length name) text) name

abbrev pub begins_with_utf8 : List ℕ → Bool
begins_with_utf8 text = begins_with text (codes "utf8") || begins_with text (codes "utf-8")

-- whether the name of a locale has the name of UTF-8 in it
unfoldable pub names_utf8 : List ℕ → Bool
names_utf8 [] = false
names_utf8 (b ∷ bs) = begins_with_utf8 (b ∷ bs) || names_utf8 bs

-- whether the terminal takes UTF-8, by the name of its locale
abbrev pub takes_utf8 : Option (List ℕ) → Bool
takes_utf8 None = false
takes_utf8 (Some locale) = names_utf8 locale

-- how many columns the terminal has: a number from 1 on
abbrev pub columns_told : Option (List ℕ) → Option ℕ
columns_told None = None
columns_told (Some text) = from_one (number_of text)

-- what variables say: the locale is the first that is told of three, and colors are not wanted where NO_COLOR is; and whether the output is a
-- terminal
abbrev pub told : Variables → Bool → Surroundings
told variables is_terminal = record {
  takes_utf8 = takes_utf8 (or_else (option_copied variables.lc_all) (or_else (option_copied variables.lc_ctype) (option_copied variables.lang)));
  forbids_color = is_told (option_copied variables.no_color);
  columns = columns_told (option_copied variables.columns);
  is_terminal = is_terminal;
}
