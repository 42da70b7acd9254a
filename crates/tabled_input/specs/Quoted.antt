-- Rows of cells as CSV has them, character by character.
--
--     text     {end} [row {end {end} row}] {end}
--     end      a line feed, or a carriage return and a line feed
--     row      cell {separator cell}, but no blank line
--     cell     quote {character, or two quotes} quote, or characters but separators and line feeds
--
-- What no such text has stands for itself: a quote in a cell that begins with none, and what follows the quote that ends a cell.
use Rattle.std.specs.Prelude.{ℕ, ◌+◌, ◌-◌, Bool, true, false, ◌==◌, ◌&&◌, if◌then◌else◌, List, [], ◌∷◌, ◌++◌, chars, encode_utf8, length, slice_index, slice_index_or}
use Rattle.tabled_input.specs.Lines.{line_feeds}
use Rattle.tabled_input.specs.declared.reader.At.{At}
use Rattle.tabled_input.specs.declared.reader.At.TheVariants.{RowStart, CellStart, Bare, Quoted, AfterQuote}
use Rattle.tabled_input.specs.declared.reader.Step.{Step}
use Rattle.tabled_input.specs.declared.reader.Step.TheVariants as step

-- characters without each carriage return before a line feed
unfoldable pub without_returns : List ℕ → List ℕ
without_returns [] = []
without_returns (c ∷ more) = if (c == 13) && (slice_index more 0 == 10) then without_returns more else c ∷ without_returns more

-- what a character does outside of quotes
abbrev pub bare_step : ℕ → ℕ → Step
bare_step separator c = if c == separator then step.Cell else if c == 10 then step.Row else step.Letter Bare

-- what a character does by where it stands
unfoldable pub step_at : ℕ → At → ℕ → Step
step_at separator RowStart c = if c == 34 then step.Nothing Quoted else if c == 10 then step.Nothing RowStart else bare_step separator c
step_at separator CellStart c = if c == 34 then step.Nothing Quoted else bare_step separator c
step_at separator Bare c = bare_step separator c
step_at separator Quoted c = if c == 34 then step.Nothing AfterQuote else step.Letter Quoted
step_at separator AfterQuote c = if c == 34 then step.Letter Quoted else bare_step separator c

-- a row of one empty cell, before other rows; an empty cell before those of the first row; a letter before those of its first cell
abbrev pub row_before : List (List (List ℕ)) → List (List (List ℕ))
row_before rows = ([] ∷ []) ∷ rows

abbrev pub cell_before : List (List (List ℕ)) → List (List (List ℕ))
cell_before [] = []
cell_before (row ∷ rows) = ([] ∷ row) ∷ rows

abbrev pub letter_before : ℕ → List (List (List ℕ)) → List (List (List ℕ))
letter_before c [] = []
letter_before c ([] ∷ rows) = [] ∷ rows
letter_before c ((cell ∷ row) ∷ rows) = ((encode_utf8 c ++ cell) ∷ row) ∷ rows

-- the rest of a text without a character: what is left of the cell in which it stands, of its row, and the rows after it
abbrev pub nothing_left : At → List (List (List ℕ))
nothing_left RowStart = []
nothing_left other = row_before []

-- the same of characters, by where they stand
unfoldable pub left_at : ℕ → At → List ℕ → List (List (List ℕ))
left_at separator at [] = nothing_left at
left_at separator at (c ∷ more) =
    elim (step_at separator at c) [
      | step.Row ↦ row_before (left_at separator RowStart more)
      | step.Cell ↦ cell_before (left_at separator CellStart more)
      | step.Letter next ↦ letter_before c (left_at separator next more)
      | step.Nothing next ↦ left_at separator next more
    ]

-- where the last character leaves off
unfoldable pub end_at : ℕ → At → List ℕ → At
end_at separator at [] = at
end_at separator at (c ∷ more) =
    elim (step_at separator at c) [
      | step.Row ↦ end_at separator RowStart more
      | step.Cell ↦ end_at separator CellStart more
      | step.Letter next ↦ end_at separator next more
      | step.Nothing next ↦ end_at separator next more
    ]

-- within quotes
abbrev pub is_quoted : At → Bool
is_quoted Quoted = true
is_quoted other = false

-- the rows of a text
unfoldable pub csv_rows : ℕ → List ℕ → List (List (List ℕ))
csv_rows separator text = left_at separator RowStart (without_returns (chars text))

-- whether its last cell begins with a quote and no other quote ends it
unfoldable pub has_open_quote : ℕ → List ℕ → Bool
has_open_quote separator text = is_quoted (end_at separator RowStart (without_returns (chars text)))

-- the line on which the last cell begins, where it goes on to the end of the text: as many above the last line as it has line feeds
abbrev pub last_cell : List (List (List ℕ)) → List ℕ
last_cell rows = let row = slice_index_or rows (length rows - 1) [] in slice_index_or row (length row - 1) []

abbrev pub line_of_last : List ℕ → List (List (List ℕ)) → ℕ
line_of_last text rows = line_feeds text - line_feeds (last_cell rows) + 1
