-- Borders, lines and class records whose characters are narrow.
use Rattle.std.specs.Prelude.{ℕ, Bool, true, Option, Some, None, [], ◌∷◌}
use Rattle.std.specs.List.{list_all}
use Rattle.tabled_border.specs.declared.border.Border.{Border}
use Rattle.tabled_places.specs.CellBorder.{border_fields}
use Rattle.tabled_places.specs.Site.{class_value}
use Rattle.tabled_places.specs.State.{classes}
use Rattle.tabled_places.specs.declared.borders.Borders.{Borders}
use Rattle.tabled_places.specs.declared.lines.HorizontalLine.{HorizontalLine}
use Rattle.tabled_places.specs.declared.lines.VerticalLine.{VerticalLine}
use Rattle.tabled_width.specs.Narrow.{is_narrow}

-- whether a character that may be given is narrow where it is
abbrev pub is_narrow_if_given : Option ℕ → Bool
is_narrow_if_given None = true
is_narrow_if_given (Some character) = is_narrow character

-- whether all that a border gives is narrow, all that a class record has, and all that a custom line has
abbrev pub is_narrow_border : Border ℕ → Bool
is_narrow_border border = list_all is_narrow_if_given (border_fields border)

abbrev pub is_narrow_record : Borders ℕ → Bool
is_narrow_record borders = list_all (λ class. is_narrow_if_given (class_value class borders)) classes

abbrev pub is_narrow_horizontal : HorizontalLine ℕ → Bool
is_narrow_horizontal line = list_all is_narrow_if_given (line.main ∷ line.intersection ∷ line.left ∷ line.right ∷ [])

abbrev pub is_narrow_vertical : VerticalLine ℕ → Bool
is_narrow_vertical line = list_all is_narrow_if_given (line.main ∷ line.intersection ∷ line.top ∷ line.bottom ∷ [])
