-- Columns that words name: by a number from 1 on, by a range of them, or by a heading.
use Rattle.std.specs.Prelude.{ℕ, ◌+◌, Bool, false, not, ◌==◌, ◌&&◌, nat_le, if◌then◌else◌, List, length, filter, flat_map, Option, Some, None, slice_get}
use Rattle.std.specs.List.{list_all, list_any, before_first, after_first, position, range_with_len, slice_split}
use Rattle.std.specs.Str.{bytes_eq}
use Rattle.tabled_request.specs.Numerals.{number_of}

abbrev pub is_dash : ℕ → Bool
is_dash b = b == 45

abbrev pub is_comma : ℕ → Bool
is_comma b = b == 44

-- two numbers, where both are
abbrev pub both : Option ℕ → Option ℕ → Option (ℕ × ℕ)
both None last = None
both (Some first) None = None
both (Some first) (Some last) = Some (first, last)

-- the first and the last number of a part of a word that is a number, or two with a dash between them; any other part is a heading
unfoldable pub numbers_of : List ℕ → Option (ℕ × ℕ)
numbers_of part =
    if list_any is_dash part
    then both (number_of (before_first is_dash part)) (number_of (after_first is_dash part))
    else both (number_of part) (number_of part)

-- whether numbers are a range, from 1 on and not backward
abbrev pub is_range : ℕ × ℕ → Bool
is_range (first, last) = nat_le 1 first && nat_le first last

-- whether a part of a word may name columns: by a range, or by a heading, which is not empty
abbrev pub is_part : List ℕ → Bool
is_part part = elim (numbers_of part) [ None ↦ not (length part == 0) | Some numbers ↦ is_range numbers ]

-- whether each part of a word, between commas, may name columns
unfoldable pub are_columns : List ℕ → Bool
are_columns word = list_all is_part (slice_split is_comma word)

-- whether a column, counted from 0, is one of a range
abbrev pub is_in : ℕ × ℕ → ℕ → Bool
is_in (first, last) col = nat_le first (col + 1) && nat_le (col + 1) last

-- whether the heading of a column is a text
abbrev pub has_heading : List (List ℕ) → List ℕ → ℕ → Bool
has_heading headings text col = elim (slice_get headings col) [ None ↦ false | Some heading ↦ bytes_eq heading text ]

-- the columns that a part of a word names, of those that there are, so many: those of its range, or else those whose heading it is
unfoldable pub columns_of_part : List (List ℕ) → ℕ → List ℕ → List ℕ
columns_of_part headings count part =
    elim (numbers_of part) [
      | None ↦ filter (has_heading headings part) (range_with_len 0 count)
      | Some numbers ↦ filter (is_in numbers) (range_with_len 0 count)
    ]

-- the columns that a word names, part after part, counted from 0
unfoldable pub columns_named : List ℕ → List (List ℕ) → ℕ → List ℕ
columns_named word headings count = flat_map (columns_of_part headings count) (slice_split is_comma word)

-- the number, counted from 0, of the first part of a word that names no column
unfoldable pub unknown_part : List ℕ → List (List ℕ) → ℕ → Option ℕ
unknown_part word headings count = position (λ part. length (columns_of_part headings count part) == 0) (slice_split is_comma word)

-- whether a column is one of some columns
abbrev pub is_one : List ℕ → ℕ → Bool
is_one columns col = list_any (λ column. column == col) columns
