-- Tables of which texts are changed.
use Rattle.std.specs.Prelude.{ℕ, Option, Some, None, if◌then◌else◌, List, [], map, length, slice_get, slice_index_or}
use Rattle.tabled_object.specs.declared.entity.Entity.{Entity}
use Rattle.tabled_object.specs.Entities.{below, position}
use Rattle.tabled_object.specs.Listing.{covered}
use Rattle.tabled_width.specs.Texts.{Table}
use Rattle.tabled_width.specs.declared.limit.Overflow.{Overflow}
use Rattle.tabled_clean.specs.Steering.{IsCleanText}
use Rattle.tabled_width.specs.Limited.{IsPrintableText, limited}
use Rattle.tabled_measure.specs.Sizes.{cell}

-- the cells of a row, each changed by its column
unfoldable pub row_changed : (ℕ → List ℕ → List ℕ) → List (List ℕ) → List (List ℕ)
row_changed change cells = map (λ col. change col (slice_index_or cells col [])) (below (length cells))

-- the cells of a table, each changed by its row and its column
unfoldable pub cells_changed : (ℕ → ℕ → List ℕ → List ℕ) → Table → Table
cells_changed change table = map (λ row. row_changed (change row) (slice_index_or table row [])) (below (length table))

-- each text is changed
abbrev pub each_text : (List ℕ → List ℕ) → ℕ → ℕ → List ℕ → List ℕ
each_text change row col text = change text

-- the texts of the cells that entities cover are changed
abbrev pub texts_of_cells : List Entity → (List ℕ → List ℕ) → ℕ → ℕ → List ℕ → List ℕ
texts_of_cells entities change row col text = if covered entities (position row col) then change text else text

-- a text that may take so many columns of the terminal, or any number
abbrev pub within : Overflow → Option ℕ → List ℕ → List ℕ
within how None text = text
within how (Some width) text = limited how width text

-- the texts of each column may take so many columns of the terminal
abbrev pub texts_of_columns : Overflow → List ℕ → ℕ → ℕ → List ℕ → List ℕ
texts_of_columns how widths row col text = within how (slice_get widths col) text

-- nothing in what a cell says steers a terminal
abbrev pub CellsAreClean : Table → Type 0
CellsAreClean table = (row col : ℕ) → IsCleanText (cell (slice_index_or table row []) col)

-- each line that a cell says is of printable ASCII alone
abbrev pub CellsArePrintable : Table → Type 0
CellsArePrintable table = (row col : ℕ) → IsPrintableText (cell (slice_index_or table row []) col)
