-- How a table of markdown is read.
use Rattle.std.specs.Prelude.{ℕ, zero, suc, ◌-◌, Bool, not, ◌==◌, ◌&&◌, ◌||◌, nat_le, if◌then◌else◌, List, [], ◌∷◌, codes, drop, length, map, slice_index, slice_index_or}
use Rattle.std.specs.List.{list_all, onto_first, slice_split, starts_with}
use Rattle.tabled_markdown.specs.declared.table.Side.{Side}
use Rattle.tabled_markdown.specs.declared.table.Side.TheVariants.{Plain, Left, Center, Right}
use Rattle.tabled_markdown.specs.Source.{is_blank}

-- ---- a text

-- what stands for a byte: how many bytes it has, and for which one it stands
pub record Sign : Type 0 where
  pub len : ℕ
  pub byte : ℕ

abbrev pub sign : ℕ → ℕ → Sign
sign len byte = record { len = len; byte = byte }

abbrev pub begins : List ℕ → List ℕ → Bool
begins source word = starts_with (λ a b. b == a) source word

-- after a "<", after an "&" and after a backslash; each stands for itself where no such word follows, or no mark
abbrev pub sign_of_tag : List ℕ → Sign
sign_of_tag source = if begins source (codes "br>") then sign 4 10 else sign 1 60

abbrev pub sign_of_entity : List ℕ → Sign
sign_of_entity source =
    if begins source (codes "lt;") then sign 4 60
    else if begins source (codes "amp;") then sign 5 38
    else if begins source (codes "#9;") then sign 4 9
    else if begins source (codes "#11;") then sign 5 11
    else if begins source (codes "#12;") then sign 5 12
    else if begins source (codes "#13;") then sign 5 13
    else if begins source (codes "#32;") then sign 5 32
    else sign 1 38

abbrev pub is_between : ℕ → ℕ → ℕ → Bool
is_between first last c = nat_le first c && nat_le c last

abbrev pub is_punctuation : ℕ → Bool
is_punctuation c = is_between 33 47 c || is_between 58 64 c || is_between 91 96 c || is_between 123 126 c

abbrev pub sign_of_escape : List ℕ → Sign
sign_of_escape source = if is_punctuation (slice_index source 0) then sign 2 (slice_index source 0) else sign 1 92

-- the one with which a source begins
unfoldable pub first_sign : ℕ → List ℕ → Sign
first_sign c more =
    if c == 60 then sign_of_tag more
    else if c == 38 then sign_of_entity more
    else if c == 92 then sign_of_escape more
    else sign 1 c

-- the text for which a source stands, whose first so many bytes were read before
abbrev pub read_on : ℕ → List ℕ → List ℕ
read_on were_read [] = []
read_on zero (c ∷ more) = (first_sign c more).byte ∷ read_on ((first_sign c more).len - 1) more
read_on (suc were_read) (c ∷ more) = read_on were_read more

abbrev pub read_text : List ℕ → List ℕ
read_text source = read_on 0 source

-- ---- a row

-- without the blanks at the start, and without those at the end
abbrev pub after_blanks : List ℕ → List ℕ
after_blanks [] = []
after_blanks (c ∷ more) = if is_blank c then after_blanks more else c ∷ more

abbrev pub before_blanks : List ℕ → List ℕ
before_blanks [] = []
before_blanks (c ∷ more) = if list_all is_blank (c ∷ more) then [] else c ∷ before_blanks more

abbrev pub read_cell : List ℕ → List ℕ
read_cell part = read_text (before_blanks (after_blanks part))

-- what stands before each bar of a line, but for a bar right after a backslash, which ends nothing
abbrev pub parts : ℕ → List ℕ → List (List ℕ)
parts before [] = []
parts before (c ∷ more) = if (c == 124) && not (before == 92) then [] ∷ parts c more else onto_first c (parts c more)

-- the cells of a row: nothing is read of what stands before its first bar
unfoldable pub read_row : List ℕ → List (List ℕ)
read_row line = map read_cell (drop 1 (parts 32 line))

-- ---- a table

-- a line feed or a carriage return
abbrev pub is_line_end : ℕ → Bool
is_line_end c = (c == 10) || (c == 13)

-- the rows of a text on its lines; an empty text has none
abbrev pub read_lines : List ℕ → List (List (List ℕ))
read_lines [] = []
read_lines (c ∷ more) = map read_row (slice_split is_line_end (c ∷ more))

-- all but the second, which has the sides of the columns
abbrev pub but_second : {X : Type 0} → List X → List X
but_second [] = []
but_second (first ∷ []) = first ∷ []
but_second (first ∷ second ∷ more) = first ∷ more

unfoldable pub read_rows : List ℕ → List (List (List ℕ))
read_rows text = but_second (read_lines text)

-- the side that a word says, by the colons at its ends
abbrev pub side_by : Bool → Bool → Side
side_by at_start at_end = if at_start then (if at_end then Center else Left) else if at_end then Right else Plain

abbrev pub read_side : List ℕ → Side
read_side word = side_by (slice_index word 0 == 58) (slice_index word (length word - 1) == 58)

unfoldable pub read_sides : List ℕ → List Side
read_sides text = map read_side (slice_index_or (read_lines text) 1 [])
