-- Cells that words name, by a row and a column, each a number from 1 on or a star.
use Rattle.std.specs.Prelude.{ℕ, Bool, ◌==◌, ◌&&◌, ◌||◌, List, codes, map, is_some}
use Rattle.std.specs.List.{list_all, before_first, after_first, slice_split}
use Rattle.std.specs.Str.{bytes_eq}
use Rattle.tabled_request.specs.Columns.{is_comma}
use Rattle.tabled_request.specs.Numerals.{from_one, number_of}
use Rattle.tabled_request.specs.declared.cells.NamedCells.{NamedCells}
use Rattle.tabled_request.specs.declared.cells.Choice.{Choice}

abbrev pub is_colon : ℕ → Bool
is_colon b = b == 58

-- what stands for a row or a column: its number, or a star for all
abbrev pub is_part : List ℕ → Bool
is_part word = bytes_eq word (codes "*") || is_some (from_one (number_of word))

abbrev pub part_of : List ℕ → Choice
part_of word = record { is_all = bytes_eq word (codes "*"); number = number_of word }

-- whether a part of a word names cells: by a row and a column with a colon between them
unfoldable pub is_cell : List ℕ → Bool
is_cell part = is_part (before_first is_colon part) && is_part (after_first is_colon part)

-- the cells that it names: those in these rows and these columns
unfoldable pub cells_of : List ℕ → NamedCells
cells_of part = record { rows = part_of (before_first is_colon part); cols = part_of (after_first is_colon part) }

-- whether each part of a word names cells
unfoldable pub are_cells : List ℕ → Bool
are_cells word = list_all is_cell (slice_split is_comma word)

-- the cells that each part of a word names
abbrev pub named_cells : List ℕ → List NamedCells
named_cells word = map cells_of (slice_split is_comma word)
