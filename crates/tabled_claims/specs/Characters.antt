-- Characters that events and options write, by a test of a character.
use Rattle.std.specs.Prelude.{◌≡◌, ℕ, Bool, true, Option, Some, None, List, [], ◌∷◌}
use Rattle.std.specs.List.{list_all}
use Rattle.tabled_border.specs.declared.border.Border.{Border}
use Rattle.tabled_places.specs.CellBorder.{border_fields}
use Rattle.tabled_places.specs.Site.{class_value}
use Rattle.tabled_places.specs.State.{classes}
use Rattle.tabled_places.specs.declared.borders.Borders.{Borders}
use Rattle.tabled_places.specs.declared.event.Event.{Event}
use Rattle.tabled_places.specs.declared.event.Event.TheVariants.{Write as write, Erase as erase}
use Rattle.tabled_places.specs.declared.event.Written.TheVariants.{Sign as sign, Standing as standing}
use Rattle.tabled_places.specs.declared.lines.HorizontalLine.{HorizontalLine}
use Rattle.tabled_places.specs.declared.lines.VerticalLine.{VerticalLine}
use Rattle.tabled_configuration.specs.Configuration.{ConfigEvent, characters_of, settings_of}

-- whether an event writes no other character than one that passes
abbrev pub is_passing_write : (ℕ → Bool) → Event ℕ → Bool
is_passing_write test (write site (sign character)) = test character
is_passing_write test (write site standing) = true
is_passing_write test (erase region) = true

-- whether a character that may be given passes where it is; and all that a border gives, that a class record has, that a custom line has
abbrev pub passes_if_given : (ℕ → Bool) → Option ℕ → Bool
passes_if_given test None = true
passes_if_given test (Some character) = test character

abbrev pub passes_border : (ℕ → Bool) → Border ℕ → Bool
passes_border test border = list_all (passes_if_given test) (border_fields border)

abbrev pub passes_record : (ℕ → Bool) → Borders ℕ → Bool
passes_record test borders = list_all (λ class. passes_if_given test (class_value class borders)) classes

abbrev pub passes_horizontal : (ℕ → Bool) → HorizontalLine ℕ → Bool
passes_horizontal test line = list_all (passes_if_given test) (line.main ∷ line.intersection ∷ line.left ∷ line.right ∷ [])

abbrev pub passes_vertical : (ℕ → Bool) → VerticalLine ℕ → Bool
passes_vertical test line = list_all (passes_if_given test) (line.main ∷ line.intersection ∷ line.top ∷ line.bottom ∷ [])

-- events write such characters alone around cells, and set nothing else
pub record WritesOnly (test : ℕ → Bool) (events : List ConfigEvent) : Type 0 where
  pub borders : list_all (is_passing_write test) (characters_of events) ≡ true
  pub settings : settings_of events ≡ []
