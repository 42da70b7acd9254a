-- The border of one cell.
use Rattle.std.specs.Prelude.{ℕ, Some}
use Rattle.tabled_border.specs.declared.border.Border.{Border}

-- a border with all its sides and corners given
abbrev pub full_border : ℕ → ℕ → ℕ → ℕ → ℕ → ℕ → ℕ → ℕ → Border ℕ
full_border top bottom left right top_left top_right bottom_left bottom_right = record {
  top = Some top;
  bottom = Some bottom;
  left = Some left;
  right = Some right;
  left_top_corner = Some top_left;
  left_bottom_corner = Some bottom_left;
  right_top_corner = Some top_right;
  right_bottom_corner = Some bottom_right;
}
