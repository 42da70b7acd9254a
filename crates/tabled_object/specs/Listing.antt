-- What an object lists.
use Rattle.std.specs.Prelude.{ℕ, ◌-◌, ◌==◌, ◌&&◌, ◌||◌, Bool, not, nat_lt, if◌then◌else◌, List, [], ◌∷◌, map, Option}
use Rattle.std.specs.Iterator.{Count, IsFinite, AlwaysYields}
use Rattle.std.specs.List.{filter, list_any}
use Rattle.tabled_object.specs.declared.entity.Entity.{Entity}
use Rattle.tabled_object.specs.declared.entity.Entity.TheVariants.{Global, Column, Row, Cell}
use Rattle.tabled_object.specs.declared.position.Position.{Position}
use Rattle.tabled_object.specs.Entities.{covers, cells_of, is_inside}

-- an iterator may be asked, it ends, and it gives exactly these entities, in their order
pub record Lists {S : Type 0} (can : S → Type 0) (steps : S → Option Entity → S → Type 0) (left : S → Count) (items : S) (entities : List Entity) : Type 0 where
  pub may_begin : can items
  pub ends : IsFinite (left items)
  pub in_order : AlwaysYields steps (λ entity. entity) items entities

-- whether an entity of a listing covers a cell
abbrev pub covered : List Entity → Position → Bool
covered entities cell = list_any (λ entity. covers entity cell) entities

-- the set of the cells that a listing covers inside a table of the given numbers of rows and columns: its order and its
-- repeats play no part
abbrev pub listed : List Entity → ℕ → ℕ → Position → Bool
listed entities rows cols cell = is_inside rows cols cell && covered entities cell

-- ---- the listings, in a table of the given number of rows or columns

abbrev pub all_cells : List Entity
all_cells = Global ∷ []

abbrev pub one_entity : Entity → List Entity
one_entity entity = entity ∷ []

abbrev pub one_cell : ℕ → ℕ → List Entity
one_cell row col = Cell row col ∷ []

abbrev pub one_row : ℕ → List Entity
one_row index = Row index ∷ []

-- row 0, if there is a row
abbrev pub first_row : ℕ → List Entity
first_row rows = if nat_lt 0 rows then (Row 0 ∷ []) else []

-- the last row, if there is a row
abbrev pub last_row : ℕ → List Entity
last_row rows = if nat_lt 0 rows then (Row (rows - 1) ∷ []) else []

-- the row that has the given number of rows below it, if there is one
abbrev pub row_above_last : ℕ → ℕ → List Entity
row_above_last offset rows = if nat_lt offset rows then (Row (rows - 1 - offset) ∷ []) else []

abbrev pub one_column : ℕ → List Entity
one_column index = Column index ∷ []

-- column 0, if there is a column
abbrev pub first_column : ℕ → List Entity
first_column cols = if nat_lt 0 cols then (Column 0 ∷ []) else []

-- the last column, if there is a column
abbrev pub last_column : ℕ → List Entity
last_column cols = if nat_lt 0 cols then (Column (cols - 1) ∷ []) else []

-- the column that has the given number of columns at its right, if there is one
abbrev pub column_before_last : ℕ → ℕ → List Entity
column_before_last offset cols = if nat_lt offset cols then (Column (cols - 1 - offset) ∷ []) else []

-- a cell as an entity
abbrev pub alone : Position → Entity
alone cell = Cell cell.row cell.col

-- of these cells, in their order, those that pass a test
abbrev pub chosen : (Position → Bool) → List Position → List Entity
chosen test cells = map alone (filter test cells)

-- whether a cell stands in the first or the last row, or in the first or the last column
abbrev pub is_outermost : ℕ → ℕ → Position → Bool
is_outermost rows cols cell = (cell.row == 0 || cell.row == rows - 1) || (cell.col == 0 || cell.col == cols - 1)

-- the outermost cells of the table, in row order
abbrev pub frame : ℕ → ℕ → List Entity
frame rows cols = chosen (is_outermost rows cols) (cells_of Global rows cols)

-- the cells of the table, in row order, that both listings cover
abbrev pub intersection : List Entity → List Entity → ℕ → ℕ → List Entity
intersection these those rows cols = chosen (λ cell. covered these cell && covered those cell) (cells_of Global rows cols)

-- the cells of the table, in row order, that the one listing covers and the other does not
abbrev pub difference : List Entity → List Entity → ℕ → ℕ → List Entity
difference kept left_out rows cols = chosen (λ cell. covered kept cell && not (covered left_out cell)) (cells_of Global rows cols)
