-- The calls that drop sides, inner lines and the frame.
use Rattle.std.specs.Prelude.{ℕ, None}
use Rattle.tabled_places.specs.declared.borders.Borders.{Borders}
use Rattle.tabled_places.specs.declared.lines.HorizontalLine.{HorizontalLine}
use Rattle.tabled_places.specs.declared.lines.VerticalLine.{VerticalLine}
use Rattle.tabled_places.specs.declared.place.Rank.{Rank}
use Rattle.tabled_places.specs.Borders.{put_horizontal, put_vertical}
use Rattle.tabled_places.specs.CustomLines.{no_horizontal, no_vertical, put_horizontal_meeting, put_vertical_meeting}
use Rattle.tabled_style.specs.Shown.{StyleShown}
use Rattle.tabled_style.specs.Lines.{each_line}

-- a record without its lines of a rank
abbrev pub horizontal_dropped : Rank → Borders ℕ → Borders ℕ
horizontal_dropped rank borders = put_horizontal rank no_horizontal borders

abbrev pub vertical_dropped : Rank → Borders ℕ → Borders ℕ
vertical_dropped rank borders = put_vertical rank no_vertical borders

-- a style without its lines of a rank; its custom lines of the other direction have nothing where they meet them
unfoldable pub without_horizontal : Rank → StyleShown → StyleShown
without_horizontal rank style = record style {
  borders = horizontal_dropped rank style.borders;
  verticals = each_line (put_vertical_meeting rank None) style.verticals;
}

unfoldable pub without_vertical : Rank → StyleShown → StyleShown
without_vertical rank style = record style {
  borders = vertical_dropped rank style.borders;
  horizontals = each_line (put_horizontal_meeting rank None) style.horizontals;
}

-- a custom line without its two ends
abbrev pub without_ends_horizontal : HorizontalLine ℕ → HorizontalLine ℕ
without_ends_horizontal line = record line { left = None; right = None }

abbrev pub without_ends_vertical : VerticalLine ℕ → VerticalLine ℕ
without_ends_vertical line = record line { top = None; bottom = None }
