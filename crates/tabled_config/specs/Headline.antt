-- What stands after any list of options.
use Rattle.std.specs.Prelude.{ℕ, List, []}
use Rattle.tabled_places.specs.declared.place.LineOf.{LineOf}
use Rattle.tabled_configuration.specs.Configuration.{ConfigEvent}
use Rattle.tabled_configuration.specs.Colored.{Colored, Shows, Changes}
use Rattle.tabled_configuration.specs.Options.{MakesInTurn}

-- options, each of which may read what stands before it, were applied in a row to a new configuration, and these are the
-- events that they made, one option's after the other's
abbrev pub HaveMade : List (Colored → List ConfigEvent) → List ConfigEvent → Colored → Type 0
HaveMade options events cfg = (new : Colored) × Shows [] new × MakesInTurn Changes options events new cfg

-- the number of the last line of a line's direction
abbrev pub line_count : ℕ × ℕ → LineOf → ℕ
line_count shape (LineOf.Horizontal row) = shape.0
line_count shape (LineOf.Vertical col) = shape.1
