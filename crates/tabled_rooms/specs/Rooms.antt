-- How wide and how high the room of a cell is that is shown: over its columns and rows, and the lines between these that are drawn.
use Rattle.std.specs.Prelude.{ℕ, ◌+◌, ◌-◌, ◌==◌, ◌&&◌, Bool, nat_lt, if◌then◌else◌, sum_by}
use Rattle.std.specs.List.{range_with_len}
use Rattle.tabled_rooms.specs.Hosts.{Cell}

-- 1 where a line is drawn
abbrev pub one_if : Bool → ℕ
one_if drawn = if drawn then 1 else 0

-- how many lines stand below the top line of a table and above the first line of text of row r: those of the rows above, each with
-- the horizontal line below it, if that is drawn
abbrev pub line_part : (ℕ → ℕ) → (ℕ → Bool) → ℕ → ℕ
line_part heights horizontal r = heights r + one_if (horizontal (r + 1))

unfoldable pub first_line : (ℕ → ℕ) → (ℕ → Bool) → ℕ → ℕ
first_line heights horizontal r = sum_by (line_part heights horizontal) (range_with_len 0 r)

-- how high the room of a cell is that is shown from row `first` to before row `bottom`
abbrev pub room_height : (ℕ → ℕ) → (ℕ → Bool) → ℕ → ℕ → ℕ
room_height heights horizontal first bottom =
    first_line heights horizontal (bottom - 1) + heights (bottom - 1) - first_line heights horizontal first

-- how wide it is, by the hosts of one of its rows, of so many columns, where it begins in column `first`: its columns, and the
-- vertical lines between them that are drawn
abbrev pub width_part : (ℕ → ℕ) → (ℕ → Bool) → (ℕ → Cell) → ℕ → ℕ → ℕ
width_part widths vertical hosts first c =
    if (hosts c).1 == first then widths c + one_if (nat_lt first c && vertical c) else 0

unfoldable pub room_width : (ℕ → ℕ) → (ℕ → Bool) → (ℕ → Cell) → ℕ → ℕ → ℕ
room_width widths vertical hosts count first = sum_by (width_part widths vertical hosts first) (range_with_len 0 count)
