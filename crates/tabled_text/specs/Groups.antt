-- Lines between groups of rows.
use Rattle.std.specs.Prelude.{ℕ, List, flat_map}
use Rattle.tabled_places.specs.Calls.{line_set_horizontal}
use Rattle.tabled_places.specs.declared.lines.HorizontalLine.{HorizontalLine}
use Rattle.tabled_configuration.specs.Configuration.{ConfigEvent, by_characters}

-- a custom line above each of some rows
abbrev pub lines_above : HorizontalLine ℕ → List ℕ → List ConfigEvent
lines_above line rows = flat_map (λ row. by_characters (line_set_horizontal row line)) rows
