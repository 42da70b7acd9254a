-- What is written of a table's lines.
use Rattle.std.specs.Prelude.{◌≡◌, ℕ, Bool, true, ◌+◌, min, None, List, [], ◌∷◌, ◌++◌, length, map, replicate, option_copied}
use Rattle.std.specs.List.{join_with_byte}
use Rattle.tabled_places.specs.declared.place.LineOf.{LineOf}
use Rattle.tabled_printing.specs.Picture.{Look, marks_along}
use Rattle.tabled_painting.specs.declared.margin_sides.MarginSides.{MarginSides}
use Rattle.tabled_painting.specs.Painted.{Painted, colored_if}
use Rattle.tabled_painting.specs.InColor.{colored, feed_if, in_color, last_color}
use Rattle.tabled_layout.specs.declared.margin.Margin.{Margin}
use Rattle.tabled_painting.specs.Margin.{Side, side_of, side_at, strip, left_side, right_side, top_side, bottom_side}
use Rattle.tabled_painting.specs.declared.painter.Painter.{Painter}
use Rattle.tabled_painting.specs.declared.page.Page.{Page}

-- a line as it is written
abbrev pub line_text : Bool → Painted → List ℕ
line_text with_colors line = in_color (colored_if with_colors line)

-- painted lines as a text, with their colors or without them
unfoldable pub text_of_lines : Bool → List Painted → List ℕ
text_of_lines with_colors lines = join_with_byte 10 (map (λ line. in_color (colored_if with_colors line)) lines)

-- the sides of a margin as the code has them
pub record IsMarginOf (kept : Margin) (margin : MarginSides) : Type 0 where
  pub left : side_of margin.left ≡ left_side kept
  pub right : side_of margin.right ≡ right_side kept
  pub top : side_of margin.top ≡ top_side kept
  pub bottom : side_of margin.bottom ≡ bottom_side kept

-- how long the lines above and below a table are, where there are some
abbrev pub whole_length : Look → MarginSides → ℕ
whole_length view margin = margin.left.size + length (marks_along view (LineOf.Horizontal 0)) + margin.right.size

pub record Strips (view : Look) (margin : MarginSides) (long : ℕ) : Type 0 where
  pub top : replicate margin.top.size (strip (side_of margin.top) long) ≡ replicate margin.top.size (strip (side_of margin.top) (whole_length view margin))
  pub bottom : replicate margin.bottom.size (strip (side_of margin.bottom) long) ≡ replicate margin.bottom.size (strip (side_of margin.bottom) (whole_length view margin))

-- lines between the sides, as these are counted: no further than a number says
abbrev pub most : ℕ
most = 18446744073709551615

abbrev pub counted_sides : Side → Side → ℕ → ℕ → List Painted → List Painted
counted_sides left right high n [] = []
counted_sides left right high n (line ∷ lines) = (side_at left high n left.size ++ line ++ side_at right high n right.size) ∷ counted_sides left right high (min (n + 1) most) lines

abbrev pub number_after : ℕ → List Painted → ℕ
number_after n [] = n
number_after n (line ∷ lines) = number_after (min (n + 1) most) lines

-- lines as they are written behind others, or as the first ones
abbrev pub joined : Bool → Bool → List Painted → List ℕ
joined with_colors begun [] = []
joined with_colors begun (line ∷ lines) = feed_if begun ++ line_text with_colors line ++ joined with_colors true lines

-- whether a line was begun, with these ones
abbrev pub begun_with : Bool → List Painted → Bool
begun_with begun [] = begun
begun_with begun (line ∷ lines) = true

-- lines were painted after those that stood there
pub record PaintsWhole {O : Type 0} (gains : List ℕ → O → O → Type 0) (lines : List Painted) (old new : Painter O) : Type 0 where
  pub text : gains (joined old.with_colors old.has_begun lines) old.out new.out
  pub begun : new.has_begun ≡ begun_with old.has_begun lines
  pub ended : option_copied new.color ≡ None
  pub same_colors : new.with_colors ≡ old.with_colors

-- a line was begun, and this part of it was painted
pub record BeginsLine {O : Type 0} (gains : List ℕ → O → O → Type 0) (line : Painted) (old new : Painter O) : Type 0 where
  pub text : gains (feed_if old.has_begun ++ colored None (colored_if old.with_colors line)) old.out new.out
  pub color : option_copied new.color ≡ last_color None (colored_if old.with_colors line)
  pub begun : new.has_begun ≡ true
  pub same_colors : new.with_colors ≡ old.with_colors

-- all but the painter and the number of the line is as it was
pub record SamePage {O : Type 0} (old new : Page O) : Type 0 where
  pub left : new.left ≡ old.left
  pub right : new.right ≡ old.right
  pub high : new.high ≡ old.high

-- lines were painted after those that stood there, each between its sides
pub record PaintsLines {O : Type 0} (gains : List ℕ → O → O → Type 0) (lines : List Painted) (old new : Page O) : Type 0 where
  pub whole : PaintsWhole gains (counted_sides (side_of old.left) (side_of old.right) old.high old.number lines) old.painter new.painter
  pub number : new.number ≡ number_after old.number lines
  pub same : SamePage old new

-- whatever of a line was painted, it ends with its right side
pub record EndsLine {O : Type 0} (gains : List ℕ → O → O → Type 0) (old new : Page O) : Type 0 where
  pub whole : (line : Painted) (start : Painter O) → BeginsLine gains line start old.painter → PaintsWhole gains ((line ++ side_at (side_of old.right) old.high old.number old.right.size) ∷ []) start new.painter
  pub ended : option_copied new.painter.color ≡ None
  pub number : new.number ≡ min (old.number + 1) most
  pub same : SamePage old new
