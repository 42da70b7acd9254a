-- Why a table is not printed.
use Rattle.std.specs.Prelude.{ℕ, Bool, ◌==◌, ◌||◌, if◌then◌else◌, Option, List, [], ◌∷◌, ◌++◌, length, slice_get}
use Rattle.std.specs.List.{flat_map, list_all, enumerate_from}
use Rattle.std.specs.declared.io.ErrorKind.{ErrorKind}
use Rattle.std.specs.declared.io.ErrorKind.TheVariants as io
use Rattle.tabled_config.specs.declared.print_error.PrintError.{PrintError}
use Rattle.tabled_configuration.specs.Configuration.{Configuration}
pub use Rattle.tabled_configuration.specs.Configuration.{has_no_spans}
use Rattle.tabled_width.specs.Texts.{Table, pieces, width_of_text}

-- of which kind a refusal is among the errors of input and output: one of memory, or of what was given
abbrev pub kind_of : PrintError → ErrorKind
kind_of PrintError.OutOfMemory = io.OutOfMemory
kind_of PrintError.Spans = io.InvalidInput
kind_of PrintError.RowCount = io.InvalidInput
kind_of (PrintError.ColumnCount row) = io.InvalidInput
kind_of (PrintError.Height row col) = io.InvalidInput
kind_of (PrintError.Width row col) = io.InvalidInput

-- the given fault, unless the given fact holds
abbrev pub unless : Bool → PrintError → List PrintError
unless holds fault = if holds then [] else fault ∷ []

-- whether a text has exactly as many lines as its row is high: for height 0 no byte
abbrev pub fits_height : ℕ → List ℕ → Bool
fits_height height text = if height == 0 then length text == 0 else length (pieces text) == height

-- whether each line of a text is as wide as its column; for height 0 that is not asked
abbrev pub fits_width : ℕ → ℕ → List ℕ → Bool
fits_width height width text = (height == 0) || list_all (λ piece. width_of_text piece == width) (pieces text)

module _ (widths heights : ℕ → ℕ) where
  -- the faults of a cell
  abbrev pub cell_faults : ℕ → ℕ × List ℕ → List PrintError
  cell_faults r (c, text) = unless (fits_height (heights r) text) (PrintError.Height r c) ++ unless (fits_width (heights r) (widths c) text) (PrintError.Width r c)

  -- the faults of a row of a table with the given number of columns
  abbrev pub row_faults : ℕ → ℕ × List (List ℕ) → List PrintError
  row_faults cols (r, cells) = unless (length cells == cols) (PrintError.ColumnCount r) ++ flat_map (cell_faults r) (enumerate_from 0 cells)

  -- the faults of the cells of a table of that shape, in the order in which they are looked for
  abbrev pub table_faults : ℕ × ℕ → Table → List PrintError
  table_faults (rows, cols) cells = unless (length cells == rows) PrintError.RowCount ++ flat_map (row_faults cols) (enumerate_from 0 cells)

-- the faults of a configuration: that it has spans
abbrev pub span_faults : Configuration → List PrintError
span_faults cfg = unless (has_no_spans cfg) PrintError.Spans

-- the first of all faults, for which a table is refused; those of the configuration come before those of the cells
abbrev pub first_refusal : Configuration → ℕ × ℕ → (ℕ → ℕ) → (ℕ → ℕ) → Table → Option PrintError
first_refusal cfg shape widths heights cells = slice_get (span_faults cfg ++ table_faults widths heights shape cells) 0
