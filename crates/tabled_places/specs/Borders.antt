-- The class record as six lines: of each rank a horizontal and a vertical one, two of which share a crossing.
use Rattle.std.specs.Prelude.{Bool, Option}
use Rattle.tabled_places.specs.declared.borders.Borders.{Borders}
use Rattle.tabled_places.specs.declared.lines.HorizontalLine.{HorizontalLine}
use Rattle.tabled_places.specs.declared.lines.VerticalLine.{VerticalLine}
use Rattle.tabled_places.specs.Site.{Horizontal, Vertical, Rank, first, inner, last, Class, edges, crossings, class_value}
use Rattle.tabled_places.specs.State.{line_classes, has_class}

-- whether the lines of a rank have something: their edges or one of their crossings
abbrev pub has_horizontal : {T : Type 0} → Rank → Borders T → Bool
has_horizontal rank borders = has_class borders (line_classes Horizontal rank)

abbrev pub has_vertical : {T : Type 0} → Rank → Borders T → Bool
has_vertical rank borders = has_class borders (line_classes Vertical rank)

-- the line of a rank
abbrev pub horizontal_of : {T : Type 0} → Rank → Borders T → HorizontalLine T
horizontal_of rank borders = record {
  main = class_value (edges Horizontal rank) borders;
  intersection = class_value (crossings rank inner) borders;
  left = class_value (crossings rank first) borders;
  right = class_value (crossings rank last) borders;
}

abbrev pub vertical_of : {T : Type 0} → Rank → Borders T → VerticalLine T
vertical_of rank borders = record {
  main = class_value (edges Vertical rank) borders;
  intersection = class_value (crossings inner rank) borders;
  top = class_value (crossings first rank) borders;
  bottom = class_value (crossings last rank) borders;
}

-- the record with this for a class
abbrev pub with_class : {T : Type 0} → Class → Option T → Borders T → Borders T
with_class (edges Horizontal first) x borders = record borders { top = x }
with_class (edges Horizontal inner) x borders = record borders { horizontal = x }
with_class (edges Horizontal last) x borders = record borders { bottom = x }
with_class (edges Vertical first) x borders = record borders { left = x }
with_class (edges Vertical inner) x borders = record borders { vertical = x }
with_class (edges Vertical last) x borders = record borders { right = x }
with_class (crossings first first) x borders = record borders { top_left = x }
with_class (crossings first inner) x borders = record borders { top_intersection = x }
with_class (crossings first last) x borders = record borders { top_right = x }
with_class (crossings inner first) x borders = record borders { left_intersection = x }
with_class (crossings inner inner) x borders = record borders { intersection = x }
with_class (crossings inner last) x borders = record borders { right_intersection = x }
with_class (crossings last first) x borders = record borders { bottom_left = x }
with_class (crossings last inner) x borders = record borders { bottom_intersection = x }
with_class (crossings last last) x borders = record borders { bottom_right = x }

-- the record with this as its line of a rank: what the line does not have the record loses
abbrev pub put_horizontal : {T : Type 0} → Rank → HorizontalLine T → Borders T → Borders T
put_horizontal rank line borders =
    with_class (crossings rank last) line.right (with_class (crossings rank first) line.left
    (with_class (crossings rank inner) line.intersection (with_class (edges Horizontal rank) line.main borders)))

abbrev pub put_vertical : {T : Type 0} → Rank → VerticalLine T → Borders T → Borders T
put_vertical rank line borders =
    with_class (crossings last rank) line.bottom (with_class (crossings first rank) line.top
    (with_class (crossings inner rank) line.intersection (with_class (edges Vertical rank) line.main borders)))
