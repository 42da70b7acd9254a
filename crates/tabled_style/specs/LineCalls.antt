-- The calls that replace a line of a style. Each has two steps: it puts the line into the record, and then the rest of the
-- record follows what the line has. What the second step asks of the record it reads between the two.
use Rattle.std.specs.Prelude.{ℕ, Bool, true, Option, None, Some, if◌then◌else◌}
use Rattle.std.specs.Str.{byte}
use Rattle.tabled_places.specs.declared.borders.Borders.{Borders}
use Rattle.tabled_places.specs.declared.lines.HorizontalLine.{HorizontalLine}
use Rattle.tabled_places.specs.declared.lines.VerticalLine.{VerticalLine}
use Rattle.tabled_places.specs.declared.place.Rank.{Rank}
use Rattle.tabled_places.specs.declared.place.Rank.TheVariants.{First as first, Inner as inner, Last as last}
use Rattle.tabled_places.specs.Borders.{has_horizontal, has_vertical, horizontal_of, vertical_of, put_horizontal, put_vertical}
use Rattle.tabled_places.specs.CustomLines.{no_horizontal, no_vertical}
use Rattle.tabled_style.specs.Shown.{StyleShown}
use Rattle.tabled_style.specs.Lines.{each_line, over_horizontal, over_vertical}
use Rattle.tabled_style.specs.Removing.{horizontal_dropped, vertical_dropped}

-- what is given, or a space where one is asked for
abbrev pub space_where : Bool → Option ℕ → Option ℕ
space_where asked None = if asked then Some (byte " ") else None
space_where asked (Some c) = Some c

-- the lines between columns of a record, with a space for what they lack on their edges and at the top and the bottom that
-- the record has
unfoldable pub spaced_vertical : Borders ℕ → VerticalLine ℕ
spaced_vertical borders =
    let line = vertical_of inner borders in
    record line {
      main = space_where true line.main;
      top = space_where (has_horizontal first borders) line.top;
      bottom = space_where (has_horizontal last borders) line.bottom;
    }

-- the lines between rows likewise, at the left and the right side
unfoldable pub spaced_horizontal : Borders ℕ → HorizontalLine ℕ
spaced_horizontal borders =
    let line = horizontal_of inner borders in
    record line {
      main = space_where true line.main;
      left = space_where (has_vertical first borders) line.left;
      right = space_where (has_vertical last borders) line.right;
    }

-- what a line has where it crosses the lines of a rank says what becomes of those: where it has nothing they go; else outer
-- ones stay as they are, and inner ones are put, spaced
unfoldable pub followed_vertical : Rank → Option ℕ → Borders ℕ → Borders ℕ
followed_vertical rank None borders = vertical_dropped rank borders
followed_vertical inner (Some _) borders = put_vertical inner (spaced_vertical borders) borders
followed_vertical _ (Some _) borders = borders

unfoldable pub followed_horizontal : Rank → Option ℕ → Borders ℕ → Borders ℕ
followed_horizontal rank None borders = horizontal_dropped rank borders
followed_horizontal inner (Some _) borders = put_horizontal inner (spaced_horizontal borders) borders
followed_horizontal _ (Some _) borders = borders

-- the second step: the inner lines across follow, and then the outer ones at both ends
unfoldable pub settled_horizontal : HorizontalLine ℕ → Borders ℕ → Borders ℕ
settled_horizontal line between =
    followed_vertical last line.right (followed_vertical first line.left (followed_vertical inner line.intersection between))

unfoldable pub settled_vertical : VerticalLine ℕ → Borders ℕ → Borders ℕ
settled_vertical line between =
    followed_horizontal last line.bottom (followed_horizontal first line.top (followed_horizontal inner line.intersection between))

-- a style after a call with a line for a rank: custom lines of its direction take its crossing and its ends, those of the
-- other one its crossing, where they are given
unfoldable pub with_line_horizontal : Rank → HorizontalLine ℕ → StyleShown → StyleShown
with_line_horizontal rank line style = record {
  borders = settled_horizontal line (put_horizontal rank line style.borders);
  horizontals = each_line (over_horizontal line) style.horizontals;
  verticals = each_line (over_vertical (record no_vertical { intersection = line.intersection })) style.verticals;
}

unfoldable pub with_line_vertical : Rank → VerticalLine ℕ → StyleShown → StyleShown
with_line_vertical rank line style = record {
  borders = settled_vertical line (put_vertical rank line style.borders);
  horizontals = each_line (over_horizontal (record no_horizontal { intersection = line.intersection })) style.horizontals;
  verticals = each_line (over_vertical line) style.verticals;
}
