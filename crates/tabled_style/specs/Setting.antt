-- The calls that set characters. What the style has is read before the call.
use Rattle.std.specs.Prelude.{ℕ, Bool, Option, Some, if◌then◌else◌}
use Rattle.tabled_places.specs.declared.borders.Borders.{Borders}
use Rattle.tabled_places.specs.declared.place.Rank.{Rank}
use Rattle.tabled_places.specs.declared.place.Rank.TheVariants.{First as first, Inner as inner, Last as last}
use Rattle.tabled_places.specs.Borders.{has_horizontal, has_vertical, horizontal_of, vertical_of, put_horizontal, put_vertical}
use Rattle.tabled_places.specs.CustomLines.{put_horizontal_meeting, put_vertical_meeting}
use Rattle.tabled_style.specs.Shown.{StyleShown}
use Rattle.tabled_style.specs.Lines.{each_line}

-- the character where it is asked for, else what was there
abbrev pub put_where : Bool → ℕ → Option ℕ → Option ℕ
put_where asked c before = if asked then Some c else before

-- a record with a character on its horizontal lines of a rank: on their edges, and where they cross the vertical lines that it has
unfoldable pub horizontal_drawn : Rank → ℕ → Borders ℕ → Borders ℕ
horizontal_drawn rank c borders =
    let line = horizontal_of rank borders in
    put_horizontal rank (record {
      main = Some c;
      intersection = put_where (has_vertical inner borders) c line.intersection;
      left = put_where (has_vertical first borders) c line.left;
      right = put_where (has_vertical last borders) c line.right;
    }) borders

unfoldable pub vertical_drawn : Rank → ℕ → Borders ℕ → Borders ℕ
vertical_drawn rank c borders =
    let line = vertical_of rank borders in
    put_vertical rank (record {
      main = Some c;
      intersection = put_where (has_horizontal inner borders) c line.intersection;
      top = put_where (has_horizontal first borders) c line.top;
      bottom = put_where (has_horizontal last borders) c line.bottom;
    }) borders

-- a style with a character on the lines of a rank; its custom lines of the other direction have it where they meet them
unfoldable pub with_horizontal : Rank → ℕ → StyleShown → StyleShown
with_horizontal rank c style = record style {
  borders = horizontal_drawn rank c style.borders;
  verticals = each_line (put_vertical_meeting rank (Some c)) style.verticals;
}

unfoldable pub with_vertical : Rank → ℕ → StyleShown → StyleShown
with_vertical rank c style = record style {
  borders = vertical_drawn rank c style.borders;
  horizontals = each_line (put_horizontal_meeting rank (Some c)) style.horizontals;
}

-- a style with a character where the inner lines cross, and at the crossings between of all custom lines
unfoldable pub with_intersection : ℕ → StyleShown → StyleShown
with_intersection c style = record {
  borders = record style.borders { intersection = Some c };
  horizontals = each_line (put_horizontal_meeting inner (Some c)) style.horizontals;
  verticals = each_line (put_vertical_meeting inner (Some c)) style.verticals;
}
