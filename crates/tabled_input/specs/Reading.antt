-- What a reader of CSV has read, and what the rest will give. Only private calls cite this.
use Rattle.std.specs.Prelude.{ℕ, Bool, true, false, List, [], ◌∷◌, ◌++◌, if◌then◌else◌}
use Rattle.tabled_input.specs.declared.reader.At.{At}
use Rattle.tabled_input.specs.declared.reader.At.TheVariants.{RowStart}
use Rattle.tabled_input.specs.declared.reader.Reader.{Reader}
use Rattle.tabled_input.specs.Quoted.{left_at, without_returns}

-- the cells of a row and a part of its next one, before what is left of it
abbrev pub onto : List (List ℕ) → List ℕ → List (List (List ℕ)) → List (List (List ℕ))
onto row cell [] = []
onto row cell ([] ∷ rows) = row ∷ rows
onto row cell ((first ∷ more) ∷ rows) = (row ++ (cell ++ first) ∷ more) ∷ rows

-- the rows that were read, and those that further characters give
abbrev pub rows_with : Reader → List ℕ → List (List (List ℕ))
rows_with reader more = reader.read.rows ++ onto reader.read.row reader.read.cell (left_at reader.separator reader.at more)

-- the characters that further ones give, before which a carriage return may have been held back
abbrev pub going_on : Bool → List ℕ → List ℕ
going_on is_held more = without_returns (if is_held then 13 ∷ more else more)

-- before a row
abbrev pub is_row_start : At → Bool
is_row_start RowStart = true
is_row_start other = false
