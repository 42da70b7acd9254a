-- Hosts as the code keeps them.
use Rattle.std.specs.Prelude.{◌≡◌, ◌<◌, ℕ, ◌+◌, min, Option, Some, None, List, length, slice_index_or}
use Rattle.tabled_rooms.specs.declared.host.Host.{Host}
use Rattle.tabled_rooms.specs.Hosts.{Cell, Counts, shown_above, host}

-- the cell that is kept
abbrev pub cell_of : Host → Cell
cell_of kept = (kept.row, kept.col)

-- a cell spans over its own column and its own row alone
abbrev pub IsOneCell : Counts → Counts → Cell → Type 0
IsOneCell columns rows cell = (columns cell.0 cell.1 ≡ 1) × (rows cell.0 cell.1 ≡ 1)

module _ (columns rows : Counts) (shape : ℕ × ℕ) where
  -- a cell that is shown, with the row and the column at which it ends, as far as the table goes
  abbrev pub held : Cell → Host
  held cell = record {
    row = cell.0;
    col = cell.1;
    bottom = min (cell.0 + rows cell.0 cell.1) shape.0;
    right = min (cell.1 + columns cell.0 cell.1) shape.1;
  }

  -- what is kept of a cell that is shown, or of none
  abbrev pub Holds : Option Cell → Host → Type 0
  Holds None kept = (kept.bottom ≡ 0) × (kept.right ≡ 0)
  Holds (Some cell) kept = kept ≡ held cell

  -- this is kept of what is shown above each place of a row
  abbrev pub AreAbove : ℕ → List Host → Type 0
  AreAbove r kept = (c : ℕ) (none : Host) → c < length kept → Holds (shown_above columns rows r c) (slice_index_or kept c none)

  -- and of the hosts of a row
  abbrev pub AreHosts : ℕ → List Host → Type 0
  AreHosts r kept = (c : ℕ) (none : Host) → c < length kept → slice_index_or kept c none ≡ held (host columns rows r c)
