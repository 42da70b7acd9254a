-- The option that lets cells span several columns or rows: the calls that it makes for the cells of an entity inside the table.
use Rattle.std.specs.Prelude.{ℕ, Bool, if◌then◌else◌, List, filter, flat_map}
use Rattle.tabled_object.specs.declared.entity.Entity.{Entity}
use Rattle.tabled_object.specs.declared.position.Position.{Position}
use Rattle.tabled_object.specs.Entities.{cells_of, is_inside}
use Rattle.tabled_configuration.specs.Configuration.{ConfigEvent, by_column_span, by_row_span}

-- over columns or over rows, and over how many
pub record Reach : Type 0 where
  pub is_columns : Bool
  pub count : ℕ

-- the call for one cell
abbrev pub cell_spanned : Reach → Position → List ConfigEvent
cell_spanned reach cell = if reach.is_columns then by_column_span (cell, reach.count) else by_row_span (cell, reach.count)

unfoldable pub span_events : Reach → ℕ × ℕ → Entity → List ConfigEvent
span_events reach shape entity = flat_map (cell_spanned reach) (filter (is_inside shape.0 shape.1) (cells_of entity shape.0 shape.1))
