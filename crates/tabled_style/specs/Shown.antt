-- What a style shows: its class record and its custom lines.
use Rattle.std.specs.Prelude.{ℕ, List}
use Rattle.tabled_border.specs.declared.border.Border.{Border}
use Rattle.tabled_places.specs.declared.borders.Borders.{Borders}
use Rattle.tabled_places.specs.declared.lines.HorizontalLine.{HorizontalLine}
use Rattle.tabled_places.specs.declared.lines.VerticalLine.{VerticalLine}

-- the class record, and the custom lines in their order, each with the index of the line that it stands for
pub record StyleShown : Type 0 where
  pub borders : Borders ℕ
  pub horizontals : List (ℕ × HorizontalLine ℕ)
  pub verticals : List (ℕ × VerticalLine ℕ)

-- the frame of a record: its sides and its corners
abbrev pub frame_of : Borders ℕ → Border ℕ
frame_of borders = record {
  top = borders.top;
  bottom = borders.bottom;
  left = borders.left;
  right = borders.right;
  left_top_corner = borders.top_left;
  left_bottom_corner = borders.bottom_left;
  right_top_corner = borders.top_right;
  right_bottom_corner = borders.bottom_right;
}
