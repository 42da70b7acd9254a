-- The cells that an entity names.
use Rattle.std.specs.Prelude.{ℕ, ◌==◌, ◌&&◌, Bool, true, nat_lt, List, [], ◌∷◌, map}
use Rattle.std.specs.List.{flat_map, range_with_len}
use Rattle.tabled_object.specs.declared.entity.Entity.{Entity}
use Rattle.tabled_object.specs.declared.entity.Entity.TheVariants.{Global, Column, Row, Cell}
use Rattle.tabled_object.specs.declared.position.Position.{Position}

-- the position of a row and a column
abbrev pub position : ℕ → ℕ → Position
position row col = record { row = row; col = col }

-- the positions in these columns of these rows, row by row
unfoldable pub rectangle : List ℕ → List ℕ → List Position
rectangle rows cols = flat_map (λ row. map (λ col. position row col) cols) rows

-- the numbers below a count, rising
abbrev pub below : ℕ → List ℕ
below count = range_with_len 0 count

-- the positions that an entity names in a table of the given numbers of rows and columns, in row order; a column, a row or
-- a cell that lies outside the table is named all the same
abbrev pub cells_of : Entity → ℕ → ℕ → List Position
cells_of Global rows cols = rectangle (below rows) (below cols)
cells_of (Column col) rows cols = rectangle (below rows) (col ∷ [])
cells_of (Row row) rows cols = rectangle (row ∷ []) (below cols)
cells_of (Cell row col) rows cols = rectangle (row ∷ []) (col ∷ [])

-- whether an entity covers a cell
abbrev pub covers : Entity → Position → Bool
covers Global cell = true
covers (Column col) cell = cell.col == col
covers (Row row) cell = cell.row == row
covers (Cell row col) cell = (cell.row == row) && (cell.col == col)

-- whether a cell lies inside a table of the given numbers of rows and columns
abbrev pub is_inside : ℕ → ℕ → Position → Bool
is_inside rows cols cell = nat_lt cell.row rows && nat_lt cell.col cols
