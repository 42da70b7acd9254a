-- The fields of a record: one of them, all of them, and the frame.
use Rattle.std.specs.Prelude.{option_map}
use Rattle.tabled_border.specs.declared.border.Border.{Border}
use Rattle.tabled_places.specs.declared.borders.Borders.{Borders}

module _ {T : Type 0} where
  -- the frame of a record: its sides and its corners
  abbrev pub frame_of : Borders T → Border T
  frame_of borders = record {
    top = borders.top;
    bottom = borders.bottom;
    left = borders.left;
    right = borders.right;
    left_top_corner = borders.top_left;
    left_bottom_corner = borders.bottom_left;
    right_top_corner = borders.top_right;
    right_bottom_corner = borders.bottom_right;
  }

  -- a record with this frame: what the frame does not give the record loses; the other fields stay
  abbrev pub with_frame : Border T → Borders T → Borders T
  with_frame border borders = record borders {
    top = border.top;
    bottom = border.bottom;
    left = border.left;
    right = border.right;
    top_left = border.left_top_corner;
    bottom_left = border.left_bottom_corner;
    top_right = border.right_top_corner;
    bottom_right = border.right_bottom_corner;
  }

-- a record with each field that is given changed
abbrev pub each_field : {A B : Type 0} → (A → B) → Borders A → Borders B
each_field change borders = record {
  top = option_map change borders.top;
  bottom = option_map change borders.bottom;
  left = option_map change borders.left;
  right = option_map change borders.right;
  top_left = option_map change borders.top_left;
  top_right = option_map change borders.top_right;
  bottom_left = option_map change borders.bottom_left;
  bottom_right = option_map change borders.bottom_right;
  top_intersection = option_map change borders.top_intersection;
  bottom_intersection = option_map change borders.bottom_intersection;
  left_intersection = option_map change borders.left_intersection;
  right_intersection = option_map change borders.right_intersection;
  horizontal = option_map change borders.horizontal;
  vertical = option_map change borders.vertical;
  intersection = option_map change borders.intersection;
}
