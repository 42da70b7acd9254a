-- The margin around painted lines.
use Rattle.std.specs.Prelude.{ℕ, Bool, nat_lt, nat_le, ◌+◌, ◌-◌, ◌==◌, ◌&&◌, if◌then◌else◌, Option, None, List, [], ◌∷◌, ◌++◌, length, replicate, option_copied}
use Rattle.std.specs.List.{flat_map}
use Rattle.tabled_border.specs.Texts.{Texts}
use Rattle.tabled_object.specs.Entities.{below}
use Rattle.tabled_object.specs.declared.offset.Offset.{Offset}
use Rattle.tabled_layout.specs.declared.margin.Margin.{Margin}
use Rattle.tabled_cells.specs.Placed.{times}
pub use Rattle.tabled_cells.specs.Placed.{fill_shown}
use Rattle.tabled_painting.specs.declared.margin_side.MarginSide.{MarginSide}
use Rattle.tabled_painting.specs.Painted.{Painted, paint}

-- one side of a margin: how wide it is and what is shown in it, what its offset leaves out, and its color
pub record Side : Type 0 where
  pub size : ℕ
  pub fill : ℕ
  pub offset : Offset
  pub color : Option Texts

abbrev pub left_side : Margin → Side
left_side margin = record { size = margin.size.left.size; fill = fill_shown margin.size.left.fill; offset = margin.offset.left; color = margin.color.left }

abbrev pub right_side : Margin → Side
right_side margin = record { size = margin.size.right.size; fill = fill_shown margin.size.right.fill; offset = margin.offset.right; color = margin.color.right }

abbrev pub top_side : Margin → Side
top_side margin = record { size = margin.size.top.size; fill = fill_shown margin.size.top.fill; offset = margin.offset.top; color = margin.color.top }

abbrev pub bottom_side : Margin → Side
bottom_side margin = record { size = margin.size.bottom.size; fill = fill_shown margin.size.bottom.fill; offset = margin.offset.bottom; color = margin.color.bottom }

-- whether an offset leaves number n of an extent out: the first ones, or the last ones
abbrev pub is_left_out : Offset → ℕ → ℕ → Bool
is_left_out (Offset.Start count) extent n = nat_lt n count
is_left_out (Offset.End count) extent n = nat_le (extent - count) n

-- the given number of characters of a side at number n of its extent: what fills it in its color, or spaces where its offset leaves that out
unfoldable pub side_at : Side → ℕ → ℕ → ℕ → Painted
side_at side extent n count = if is_left_out side.offset extent n then paint None (times count 32) else paint side.color (times count side.fill)

-- lines between the left and the right side, which are `high` lines high, where the first of the lines has number n
abbrev pub between_sides : Side → Side → ℕ → ℕ → List Painted → List Painted
between_sides left right high n [] = []
between_sides left right high n (line ∷ lines) = (side_at left high n left.size ++ line ++ side_at right high n right.size) ∷ between_sides left right high (n + 1) lines

-- a line above or below, of the given number of columns
abbrev pub strip : Side → ℕ → Painted
strip side long = flat_map (λ n. side_at side long n 1) (below long)

-- lines of the given number of columns with their margin around them
abbrev pub in_margin : Margin → ℕ → List Painted → List Painted
in_margin margin columns lines =
    let left = left_side margin in
    let right = right_side margin in
    let long = left.size + columns + right.size in
    replicate (top_side margin).size (strip (top_side margin) long)
    ++ between_sides left right (length lines) 0 lines
    ++ replicate (bottom_side margin).size (strip (bottom_side margin) long)

-- whether no side of a margin has room
abbrev pub is_without_room : Margin → Bool
is_without_room margin = (margin.size.left.size == 0) && (margin.size.right.size == 0) && (margin.size.top.size == 0) && (margin.size.bottom.size == 0)

-- a side as the code has it
abbrev pub side_of : MarginSide → Side
side_of side = record { size = side.size; fill = side.fill; offset = side.offset; color = option_copied side.color }
