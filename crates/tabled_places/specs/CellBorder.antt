-- The sides and the corners of one cell: where they are, and what shows there.
use Rattle.std.specs.Prelude.{ℕ, ◌+◌, ◌^◌, ◌&&◌, nat_lt, if◌then◌else◌, Option, Some, None, List, [], ◌∷◌, option_and_then}
use Rattle.tabled_border.specs.declared.border.Border.{Border}
use Rattle.tabled_places.specs.declared.place.Place.{Place}
use Rattle.tabled_object.specs.declared.position.Position.{Position}
use Rattle.tabled_places.specs.Site.{Site}
use Rattle.tabled_places.specs.Event.{Written}
use Rattle.tabled_places.specs.Value.{plain_value}
use Rattle.tabled_border.specs.Border.{no_border}

-- the line after line n; a store's numbers are below 2^64, and after the last one there is none
abbrev pub next_line : ℕ → Option ℕ
next_line n = if nat_lt (n + 1) (2 ^ 64) then Some (n + 1) else None

-- the first place of an edge, and a crossing, where the lines have numbers
abbrev pub side_horizontal : Option ℕ → ℕ → Option Place
side_horizontal (Some r) c = Some (Place.Horizontal r c 0)
side_horizontal None c = None

abbrev pub side_vertical : ℕ → Option ℕ → Option Place
side_vertical r (Some c) = Some (Place.Vertical r c 0)
side_vertical r None = None

abbrev pub corner : Option ℕ → Option ℕ → Option Place
corner (Some r) (Some c) = Some (Place.Cross r c)
corner (Some r) None = None
corner None c = None

-- the places of a cell's sides and corners
abbrev pub border_places : Position → Border Place
border_places pos = record {
  top = side_horizontal (Some pos.row) pos.col;
  bottom = side_horizontal (next_line pos.row) pos.col;
  left = side_vertical pos.row (Some pos.col);
  right = side_vertical pos.row (next_line pos.col);
  left_top_corner = corner (Some pos.row) (Some pos.col);
  left_bottom_corner = corner (next_line pos.row) (Some pos.col);
  right_top_corner = corner (Some pos.row) (next_line pos.col);
  right_bottom_corner = corner (next_line pos.row) (next_line pos.col);
}

-- the sides and the corners, in one order
abbrev pub border_fields : {X : Type 0} → Border X → List (Option X)
border_fields border =
    border.top ∷ border.bottom ∷ border.left ∷ border.right
    ∷ border.left_top_corner ∷ border.left_bottom_corner ∷ border.right_top_corner ∷ border.right_bottom_corner ∷ []

-- what shows at the sides and the corners of a cell, offsets aside; a cell outside has nothing
unfoldable pub border_shown : {T : Type 0} → (Site → Option (Written T)) → ℕ × ℕ → Position → Border T
border_shown state (rows, cols) pos =
    if nat_lt pos.row rows && nat_lt pos.col cols then record {
      top = option_and_then (plain_value state (rows, cols)) (border_places pos).top;
      bottom = option_and_then (plain_value state (rows, cols)) (border_places pos).bottom;
      left = option_and_then (plain_value state (rows, cols)) (border_places pos).left;
      right = option_and_then (plain_value state (rows, cols)) (border_places pos).right;
      left_top_corner = option_and_then (plain_value state (rows, cols)) (border_places pos).left_top_corner;
      left_bottom_corner = option_and_then (plain_value state (rows, cols)) (border_places pos).left_bottom_corner;
      right_top_corner = option_and_then (plain_value state (rows, cols)) (border_places pos).right_top_corner;
      right_bottom_corner = option_and_then (plain_value state (rows, cols)) (border_places pos).right_bottom_corner;
    } else no_border
