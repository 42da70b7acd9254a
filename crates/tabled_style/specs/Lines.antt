-- Custom lines.
use Rattle.std.specs.Prelude.{ℕ, Some, List, map}
use Rattle.std.specs.Option.{option_or}
use Rattle.tabled_places.specs.declared.lines.HorizontalLine.{HorizontalLine}
use Rattle.tabled_places.specs.declared.lines.VerticalLine.{VerticalLine}

-- a line with all its characters given
abbrev pub full_horizontal : ℕ → ℕ → ℕ → ℕ → HorizontalLine ℕ
full_horizontal main intersection left right =
    record { main = Some main; intersection = Some intersection; left = Some left; right = Some right }

abbrev pub full_vertical : ℕ → ℕ → ℕ → ℕ → VerticalLine ℕ
full_vertical main intersection top bottom =
    record { main = Some main; intersection = Some intersection; top = Some top; bottom = Some bottom }

-- a horizontal line turned down, its left end up
abbrev pub turned_vertical : {T : Type 0} → HorizontalLine T → VerticalLine T
turned_vertical line = record { main = line.main; intersection = line.intersection; top = line.left; bottom = line.right }

-- a vertical line turned across, its upper end to the left
abbrev pub turned_horizontal : {T : Type 0} → VerticalLine T → HorizontalLine T
turned_horizontal line = record { main = line.main; intersection = line.intersection; left = line.top; right = line.bottom }

-- each custom line changed, at its index
abbrev pub each_line : {L : Type 0} → (L → L) → List (ℕ × L) → List (ℕ × L)
each_line change lines = map (λ line. (line.0, change line.1)) lines

-- a line with the given characters of another, but for its main one, in place of its own
abbrev pub over_horizontal : HorizontalLine ℕ → HorizontalLine ℕ → HorizontalLine ℕ
over_horizontal put line = record {
  main = line.main;
  intersection = option_or put.intersection line.intersection;
  left = option_or put.left line.left;
  right = option_or put.right line.right;
}

abbrev pub over_vertical : VerticalLine ℕ → VerticalLine ℕ → VerticalLine ℕ
over_vertical put line = record {
  main = line.main;
  intersection = option_or put.intersection line.intersection;
  top = option_or put.top line.top;
  bottom = option_or put.bottom line.bottom;
}
