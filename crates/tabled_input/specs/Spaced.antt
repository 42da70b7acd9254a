-- Rows of cells between runs of blanks, as programs print them that line their columns up.
--
-- A blank is a space or a tabulator. The lines of a text are those of `lines`; a line of blanks alone is no row. The words of a line are
-- what stands between its runs of blanks.
--
-- Wide cells may hold single blanks: a line is cut at each run of two blanks and more, and blanks at its ends are dropped. Where each line
-- has the same number of them, two at least, and they begin at the same places in each (as many characters stand before them), these are
-- the cells.
--
-- Else the cells are words. A line and all lines below it make a block: as high as they are many, and as wide as the fewest words that one
-- of them has. The table is the block whose area is the largest, the uppermost one of equals. There are as many columns as it is wide; but
-- where lines above it have fewer words than that, and a third as many at least, as many as the most words of such a line: its headings
-- stand there; but never so many that all rows together would have more cells than the text has bytes. A line is cut into that many cells:
-- each but the last is a word, and the last has the rest of the line without the blanks around it. Cells that a line is short of are empty.
use Rattle.std.specs.Prelude.{◌≡◌, ℕ, zero, suc, ◌+◌, ◌-◌, ◌*◌, ◌/◌, ◌==◌, min, max, Bool, not, ◌||◌, ◌&&◌, nat_eq, nat_lt, if◌then◌else◌, List, [], ◌∷◌, All, chars, drop, filter, flat_map, length, map, slice_index, slice_index_or, take, unwrap_or}
use Rattle.std.specs.List.{list_all, prefix_len, range_with_len, reduce, slice_split, suffix_len}
use Rattle.std.specs.Cmp.Lexicographic.{pointwise}
use Rattle.std.specs.Str.Lines.{lines}
use Rattle.tabled_input.specs.declared.blocks.Block.{Block}

-- ---- words

-- a space or a tabulator
abbrev pub is_blank : ℕ → Bool
is_blank c = (c == 32) || (c == 9)

-- a byte of a word
abbrev pub is_letter : ℕ → Bool
is_letter c = not (is_blank c)

-- the lines that have words
abbrev pub word_lines : List ℕ → List (List ℕ)
word_lines text = filter (λ line. not (list_all is_blank line)) (lines text)

-- what stands between runs of blanks
abbrev pub words : List ℕ → List (List ℕ)
words line = filter (λ word. not (length word == 0)) (slice_split is_blank line)

abbrev pub word_count : List ℕ → ℕ
word_count line = length (words line)

-- ---- how many columns there are, from how many words each line has

-- the fewest words that one of some lines has
unfoldable pub fewest : List ℕ → ℕ
fewest [] = 0
fewest (count ∷ []) = count
fewest (count ∷ below) = min count (fewest below)

-- some lines as a block
abbrev pub block_of : List ℕ → Block
block_of counts = record { height = length counts; width = fewest counts }

abbrev pub area : Block → ℕ
area block = block.height * block.width

-- the block of a line and those below it whose area is the largest, the uppermost one of equals
unfoldable pub largest : List ℕ → Block
largest [] = block_of []
largest (count ∷ below) =
    let here = block_of (count ∷ below) in
    if nat_lt (area here) (area (largest below)) then largest below else here

-- a line above a block of that width may have its headings: it has fewer words, and a third as many at least
abbrev pub may_head : ℕ → ℕ → Bool
may_head width count = nat_lt count width && not (nat_lt (3 * count) width)

-- as many as the table is wide, or the most words of a line above it that may have its headings
unfoldable pub column_count : List ℕ → ℕ
column_count counts =
    let table = largest counts in
    let above = take (length counts - table.height) counts in
    unwrap_or (reduce max (filter (may_head table.width) above)) table.width

-- as many for the words of a text, but never so many that all lines together would have more cells than it has bytes; one at least
abbrev pub word_columns : List ℕ → ℕ
word_columns text = max 1 (min (column_count (map word_count (word_lines text))) (length text / length (word_lines text)))

-- ---- how many wide cells there are

-- whether one begins at that character of a line: it is no blank, and the two before it are blanks, or all that stand before it
abbrev pub begins_wide : List ℕ → ℕ → Bool
begins_wide characters place = is_letter (slice_index characters place) && list_all is_blank (drop (place - 2) (take place characters))

-- the places of those of a line: how many characters stand before each
abbrev pub places_in : List ℕ → List ℕ
places_in characters = filter (begins_wide characters) (range_with_len 0 (length characters))

abbrev pub wide_places : List ℕ → List ℕ
wide_places line = places_in (chars line)

-- whether those of a line begin at these places
abbrev pub begin_at : List ℕ → List ℕ → Bool
begin_at places line = pointwise nat_eq (wide_places line) places

-- how many each line has, where those of each begin at the places of the first line's, and are two at least; else 0
unfoldable pub wide_count : List (List ℕ) → ℕ
wide_count lines =
    let places = slice_index_or (map wide_places lines) 0 [] in
    if nat_lt 1 (length places) && list_all (begin_at places) lines then length places else 0

-- ---- cells

-- a line without the blanks before its first word, and without those after its last one
abbrev pub from_word : List ℕ → List ℕ
from_word line = drop (prefix_len is_blank line) line

abbrev pub to_word : List ℕ → List ℕ
to_word line = take (length line - suffix_len is_blank line) line

-- how many bytes of a line stand before two blanks, or before the blanks at its end
unfoldable pub wide_len : List ℕ → ℕ
wide_len [] = 0
wide_len (c ∷ line) = if list_all is_blank (take 2 (c ∷ line)) then 0 else 1 + wide_len line

-- how many bytes the cell has that a line begins with: a wide one, or a word
abbrev pub cell_len : Bool → List ℕ → ℕ
cell_len is_wide line = if is_wide then wide_len line else prefix_len is_letter line

-- the first cell of a line, and what follows it
abbrev pub first_cell : Bool → List ℕ → List ℕ
first_cell is_wide line = take (cell_len is_wide (from_word line)) (from_word line)

abbrev pub after_cell : Bool → List ℕ → List ℕ
after_cell is_wide line = drop (cell_len is_wide (from_word line)) (from_word line)

-- a line in so many cells, of which the last has the rest
unfoldable pub cells_of_line : Bool → ℕ → List ℕ → List (List ℕ)
cells_of_line is_wide zero line = []
cells_of_line is_wide (suc zero) line = to_word (from_word line) ∷ []
cells_of_line is_wide (suc (suc more)) line = first_cell is_wide line ∷ cells_of_line is_wide (suc more) (after_cell is_wide line)

-- ---- rows

-- whether the lines of a text have wide cells
abbrev pub has_wide : List ℕ → Bool
has_wide text = nat_lt 0 (wide_count (word_lines text))

-- how many columns a text has
abbrev pub columns_in : List ℕ → ℕ
columns_in text = if has_wide text then wide_count (word_lines text) else word_columns text

-- the rows of a text
unfoldable pub spaced : List ℕ → List (List (List ℕ))
spaced text = map (cells_of_line (has_wide text) (columns_in text)) (word_lines text)

-- ---- what is known of them

-- rows of as many cells each
abbrev pub AreEven : List (List (List ℕ)) → Type 0
AreEven rows = (columns : ℕ) × All (λ row. length row ≡ columns) rows

-- the words of the cells of each row
abbrev pub row_words : List (List (List ℕ)) → List (List (List ℕ))
row_words rows = map (flat_map words) rows
