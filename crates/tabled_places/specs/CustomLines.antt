-- Class records and custom lines with nothing set, and the crossings of custom lines set.
use Rattle.std.specs.Prelude.{Option, None}
use Rattle.tabled_places.specs.declared.borders.Borders.{Borders}
use Rattle.tabled_places.specs.declared.lines.HorizontalLine.{HorizontalLine}
use Rattle.tabled_places.specs.declared.lines.VerticalLine.{VerticalLine}
use Rattle.tabled_places.specs.Site.{Rank, first, inner, last}

abbrev pub no_borders : {T : Type 0} → Borders T
no_borders = record {
  top = None;
  bottom = None;
  left = None;
  right = None;
  top_left = None;
  top_right = None;
  bottom_left = None;
  bottom_right = None;
  top_intersection = None;
  bottom_intersection = None;
  left_intersection = None;
  right_intersection = None;
  horizontal = None;
  vertical = None;
  intersection = None;
}

abbrev pub no_horizontal : {T : Type 0} → HorizontalLine T
no_horizontal = record { main = None; intersection = None; left = None; right = None }

abbrev pub no_vertical : {T : Type 0} → VerticalLine T
no_vertical = record { main = None; intersection = None; top = None; bottom = None }

-- a line with this at its crossings with the lines of a rank
abbrev pub put_horizontal_meeting : {T : Type 0} → Rank → Option T → HorizontalLine T → HorizontalLine T
put_horizontal_meeting first x line = record line { left = x }
put_horizontal_meeting inner x line = record line { intersection = x }
put_horizontal_meeting last x line = record line { right = x }

abbrev pub put_vertical_meeting : {T : Type 0} → Rank → Option T → VerticalLine T → VerticalLine T
put_vertical_meeting first x line = record line { top = x }
put_vertical_meeting inner x line = record line { intersection = x }
put_vertical_meeting last x line = record line { bottom = x }
