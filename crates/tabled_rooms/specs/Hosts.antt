-- Which cell is shown at each place of a table whose cells span several columns or rows.
use Rattle.std.specs.Prelude.{◌≡◌, ◌⊎◌, ℕ, zero, suc, ◌+◌, ◌<◌, ◌≤◌, Bool, ◌==◌, ◌&&◌, nat_lt, if◌then◌else◌, Option, Some, None}

-- a cell, by its row and its column
abbrev pub Cell : Type 0
Cell = ℕ × ℕ

-- over how many columns, or rows, each cell spans: 1 is its own alone
abbrev pub Counts : Type 0
Counts = ℕ → ℕ → ℕ

module _ (columns rows : Counts) where
  -- whether a cell that is shown reaches down to a row, and right to a column
  abbrev pub reaches_row : Cell → ℕ → Bool
  reaches_row shown r = nat_lt r (shown.0 + rows shown.0 shown.1)

  abbrev pub reaches_column : Cell → ℕ → Bool
  reaches_column shown c = nat_lt c (shown.1 + columns shown.0 shown.1)

  -- the cell that is shown in a row, by the one that is shown above, if there is one: that one, if it reaches down; else another
  abbrev pub from_above : Option Cell → ℕ → Cell → Cell
  from_above None r other = other
  from_above (Some up) r other = if reaches_row up r then up else other

  -- the other one, by what is shown at the left, if there is something: that, if it stands in this row and reaches to the column;
  -- else the cell of the place itself
  abbrev pub from_left : Option Cell → ℕ → ℕ → Cell
  from_left None r c = (r, c)
  from_left (Some left) r c = if (left.0 == r) && reaches_column left c then left else (r, c)

  abbrev pub shown_from : Option Cell → Option Cell → ℕ → ℕ → Cell
  shown_from up left r c = from_above up r (from_left left r c)

  -- what is shown at the left of a place, by what is shown above its row
  unfoldable pub shown_left : (ℕ → Option Cell) → ℕ → ℕ → Option Cell
  shown_left above r zero = None
  shown_left above r (suc c) = Some (shown_from (above c) (shown_left above r c) r c)

  -- what is shown above a place
  unfoldable pub shown_above : ℕ → ℕ → Option Cell
  shown_above zero c = None
  shown_above (suc r) c = Some (shown_from (shown_above r c) (shown_left (shown_above r) r c) r c)

  -- the cell that is shown at a place, its host: the one above, where that reaches down to it; else the one at its left, where that
  -- begins in this row and reaches to it; else its own
  unfoldable pub host : ℕ → ℕ → Cell
  host r c = shown_from (shown_above r c) (shown_left (shown_above r) r c) r c

-- a cell takes a place: it spans over it, or stands there itself
pub record Takes (columns rows : Counts) (cell : Cell) (r c : ℕ) : Type 0 where
  pub from_row : cell.0 ≤ r
  pub before_row : r < cell.0 + rows cell.0 cell.1
  pub from_column : cell.1 ≤ c
  pub before_column : c < cell.1 + columns cell.0 cell.1

-- where a cell takes a place, no other one does but the cell of the place itself
abbrev pub IsAlone : Counts → Counts → Cell → Type 0
IsAlone columns rows cell = (other : Cell) (r c : ℕ) → Takes columns rows cell r c → Takes columns rows other r c → (other ≡ cell) ⊎ (other ≡ (r, c))
