-- Which cells' sizes a table has to find anew after an option that sets something.
use Rattle.std.specs.Prelude.{Option, Some, None}
use Rattle.tabled_object.specs.declared.entity.Entity.{Entity}
use Rattle.tabled_changes.specs.declared.resizing.Resizes.{Resizes}

abbrev pub hinted_on_cells : Resizes → Option Entity
hinted_on_cells Resizes.Never = None
hinted_on_cells Resizes.OnCells = Some Entity.Global
hinted_on_cells Resizes.Always = Some Entity.Global

abbrev pub hinted_on_table : Resizes → Option Entity
hinted_on_table Resizes.Never = None
hinted_on_table Resizes.OnCells = None
hinted_on_table Resizes.Always = Some Entity.Global
