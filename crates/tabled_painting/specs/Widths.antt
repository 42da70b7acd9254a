-- How wide the lines of a table are with its margin, and where its vertical lines stand in them.
use Rattle.std.specs.Prelude.{ℕ, ◌+◌, ◌-◌, if◌then◌else◌, List, length, take, drop}
use Rattle.std.specs.List.{AllZip}
use Rattle.tabled_places.specs.declared.place.LineOf.{LineOf}
use Rattle.tabled_layout.specs.declared.margin.Margin.{Margin}
use Rattle.tabled_printing.specs.Along.{is_empty, along}
use Rattle.tabled_printing.specs.Picture.{Look, character}
use Rattle.tabled_width.specs.Narrow.{StandsAt}
use Rattle.tabled_printing.specs.Columns.{columns_before, table_width}

-- how many columns each line of the text takes; a table without places has an empty text
abbrev pub text_width : Look → Margin → ℕ
text_width view margin = if is_empty view.shape then 0 else margin.size.left.size + table_width view + margin.size.right.size

-- the lines between the strips of a margin
abbrev pub between_strips : Margin → List (List ℕ) → List (List ℕ)
between_strips margin lines = take (length lines - margin.size.top.size - margin.size.bottom.size) (drop margin.size.top.size lines)

-- vertical line c stands straight in a text with a margin: in each line between the strips, after the left side of the margin and
-- the columns before the line, stands what the next place along it shows
abbrev pub StandsStraightIn : Look → Margin → ℕ → List (List ℕ) → Type 0
StandsStraightIn view margin c lines =
    AllZip (λ place line. StandsAt (margin.size.left.size + columns_before view c) (character (view.shown place)) line)
    (along view.horizontal view.vertical view.shape view.widths view.heights (LineOf.Vertical c)) (between_strips margin lines)
