-- The refusals of a table of texts.
use Rattle.std.specs.Prelude.{◌≡◌, ℕ, Option, Some, List, [], length, slice_index_or}
use Rattle.std.specs.List.{AllZip}
use Rattle.tabled_rows.specs.Spelled.{IsRow}
use Rattle.tabled_width.specs.Texts.{Table}
use Rattle.tabled_measure.specs.Sizes.{column_count, unequal_row}
use Rattle.std.specs.declared.io.ErrorKind.{ErrorKind}
use Rattle.std.specs.declared.io.ErrorKind.TheVariants as io
use Rattle.tabled_text.specs.declared.table_error.TableError.{TableError}
use Rattle.tabled_text.specs.declared.table_error.TableError.TheVariants.{OutOfMemory, UnequalRows, UnequalColumn, Write, UnknownStyle}

-- the refusal of a table whose row of that number has more or fewer cells than its first
abbrev pub unequal : Table → ℕ → TableError
unequal table row = UnequalRows row (length (slice_index_or table row [])) (column_count table)

-- rows of which this is known are of unequal length, and the first that is not as long as row 0 is named, with both counts
abbrev pub AreUnequal : List (Option (List (Option (List ℕ)))) → TableError → Type 0
AreUnequal known refused = (rows : Table) × (row : ℕ) × AllZip IsRow known rows × (unequal_row rows ≡ Some row) × (refused ≡ unequal rows row)

-- of which kind a refusal is among the errors of input and output
abbrev pub kind_of : TableError → ErrorKind
kind_of OutOfMemory = io.OutOfMemory
kind_of (UnequalRows row cells columns) = io.InvalidInput
kind_of (UnequalColumn column cells rows) = io.InvalidInput
kind_of Write = io.Uncategorized
kind_of UnknownStyle = io.InvalidInput
