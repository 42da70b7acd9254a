-- The call that replaces the frame of a style.
use Rattle.std.specs.Prelude.{ℕ, Bool, ◌&&◌, [], ◌∷◌, is_some}
use Rattle.std.specs.List.{list_any}
use Rattle.tabled_border.specs.declared.border.Border.{Border}
use Rattle.tabled_places.specs.CustomLines.{no_horizontal, no_vertical}
use Rattle.tabled_style.specs.Shown.{StyleShown}
use Rattle.tabled_style.specs.Lines.{each_line, over_horizontal, over_vertical}
use Rattle.tabled_style.specs.LineCalls.{space_where}

-- whether a border has a side: the side itself or one of its corners
abbrev pub has_upper : Border ℕ → Bool
has_upper border = list_any is_some (border.top ∷ border.left_top_corner ∷ border.right_top_corner ∷ [])

abbrev pub has_lower : Border ℕ → Bool
has_lower border = list_any is_some (border.bottom ∷ border.left_bottom_corner ∷ border.right_bottom_corner ∷ [])

abbrev pub has_left_side : Border ℕ → Bool
has_left_side border = list_any is_some (border.left ∷ border.left_top_corner ∷ border.left_bottom_corner ∷ [])

abbrev pub has_right_side : Border ℕ → Bool
has_right_side border = list_any is_some (border.right ∷ border.right_top_corner ∷ border.right_bottom_corner ∷ [])

-- a space at each side of which only a corner is given
abbrev pub sides_given : Border ℕ → Border ℕ
sides_given border = record border {
  top = space_where (has_upper border) border.top;
  bottom = space_where (has_lower border) border.bottom;
  left = space_where (has_left_side border) border.left;
  right = space_where (has_right_side border) border.right;
}

-- a space at each missing corner of which the border has both sides
abbrev pub corners_given : Border ℕ → Border ℕ
corners_given border = record border {
  left_top_corner = space_where (has_upper border && has_left_side border) border.left_top_corner;
  left_bottom_corner = space_where (has_lower border && has_left_side border) border.left_bottom_corner;
  right_top_corner = space_where (has_upper border && has_right_side border) border.right_top_corner;
  right_bottom_corner = space_where (has_lower border && has_right_side border) border.right_bottom_corner;
}

-- the sides first, and then the corners
unfoldable pub corrected : Border ℕ → Border ℕ
corrected border = corners_given (sides_given border)

-- the style with these sides and corners
unfoldable pub with_frame : Border ℕ → StyleShown → StyleShown
with_frame border style = record {
  borders = record style.borders {
    top = border.top;
    bottom = border.bottom;
    left = border.left;
    right = border.right;
    top_left = border.left_top_corner;
    top_right = border.right_top_corner;
    bottom_left = border.left_bottom_corner;
    bottom_right = border.right_bottom_corner;
  };
  horizontals = each_line (over_horizontal (record no_horizontal { left = border.left; right = border.right })) style.horizontals;
  verticals = each_line (over_vertical (record no_vertical { top = border.top; bottom = border.bottom })) style.verticals;
}
