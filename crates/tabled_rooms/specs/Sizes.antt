-- How wide the columns are and how high the rows of a table whose cells span: as wide as any cell asks that is shown in that column
-- alone, and then wider where cells that are shown over several columns ask for more.
use Rattle.std.specs.Prelude.{ℕ, ◌+◌, ◌-◌, ◌==◌, ◌&&◌, not, Bool, min, max, fold, if◌then◌else◌, List, [], ◌∷◌, map, sum_by}
use Rattle.std.specs.List.{flat_map}
pub use Rattle.tabled_object.specs.Entities.{below}
use Rattle.tabled_rooms.specs.declared.growing.Ask.{Ask}
use Rattle.tabled_rooms.specs.Hosts.{Cell, Counts, host}
use Rattle.tabled_rooms.specs.Growing.{grown}

-- the greatest of some numbers, 0 of none
abbrev pub greatest : List ℕ → ℕ
greatest = fold max 0

-- whether the cell of a place is the one that is shown there
abbrev pub is_shown : Cell → ℕ → ℕ → Bool
is_shown shown r c = (shown.0 == r) && (shown.1 == c)

-- how many columns of a row show the cell that is shown from a column on
abbrev pub columns_taken : (ℕ → Cell) → ℕ → ℕ → ℕ
columns_taken hosts count c = sum_by (λ k. if (hosts k).1 == c then 1 else 0) (below count)

-- what one cell asks for: of its column or row alone, or over several
abbrev pub alone : Bool → ℕ → ℕ → ℕ
alone shown count size = if shown && (count == 1) then size else 0

abbrev pub over_several : Bool → ℕ → ℕ → ℕ → List Ask
over_several shown first count size = if shown && not (count == 1) then record { first = first; count = count; size = size } ∷ [] else []

module _ (columns rows : Counts) (shape : ℕ × ℕ) where
  abbrev pub is_own : ℕ → ℕ → Bool
  is_own r c = is_shown (host columns rows r c) r c

  -- over how many columns and rows a cell is shown
  abbrev pub column_count : ℕ → ℕ → ℕ
  column_count r c = columns_taken (host columns rows r) shape.1 c

  abbrev pub row_count : ℕ → ℕ → ℕ
  row_count r c = min (r + rows r c) shape.0 - r

  module _ (asked : Counts) where
    -- how wide a column is for the cells that are shown in it alone, and what is asked for over several, row by row
    abbrev pub own_width : ℕ → ℕ
    own_width c = greatest (map (λ r. alone (is_own r c) (column_count r c) (asked r c)) (below shape.0))

    abbrev pub over_columns : ℕ → List Ask
    over_columns r = flat_map (λ c. over_several (is_own r c) c (column_count r c) (asked r c)) (below shape.1)

    unfoldable pub spanned_widths : (ℕ → Bool) → List ℕ
    spanned_widths vertical = grown vertical (map own_width (below shape.1)) (flat_map over_columns (below shape.0))

    -- the same of rows
    abbrev pub own_height : ℕ → ℕ
    own_height r = greatest (map (λ c. alone (is_own r c) (row_count r c) (asked r c)) (below shape.1))

    abbrev pub over_rows : ℕ → List Ask
    over_rows r = flat_map (λ c. over_several (is_own r c) r (row_count r c) (asked r c)) (below shape.1)

    unfoldable pub spanned_heights : (ℕ → Bool) → List ℕ
    spanned_heights horizontal = grown horizontal (map own_height (below shape.0)) (flat_map over_rows (below shape.0))
