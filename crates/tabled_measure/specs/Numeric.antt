-- Columns of numbers, whose texts stand at the right.
use Rattle.std.specs.Prelude.{ℕ, List, drop, filter, map}
use Rattle.tabled_object.specs.Entities.{below}
use Rattle.tabled_object.specs.declared.entity.Entity.TheVariants.{Column}
use Rattle.tabled_settings.specs.declared.alignment.AlignmentHorizontal.{AlignmentHorizontal}
use Rattle.tabled_settings.specs.Setting.{EntityEvent, write_of}
use Rattle.tabled_configuration.specs.Configuration.{ConfigEvent}
use Rattle.tabled_configuration.specs.EntitiesAligned.{entities_aligned}
use Rattle.tabled_numbers.specs.Columns.{column_count, is_numeric}
use Rattle.tabled_width.specs.Texts.{Table}

-- the columns of numbers below the first rows, which are headings
abbrev pub numeric_columns : ℕ → Table → List ℕ
numeric_columns headings table = filter (is_numeric (drop headings table)) (below (column_count table))

-- the texts of columns stand at the right
abbrev pub to_the_right : ℕ → EntityEvent AlignmentHorizontal
to_the_right col = write_of (Column col) AlignmentHorizontal.Right

abbrev pub at_right : List ℕ → List ConfigEvent
at_right columns = entities_aligned (map to_the_right columns)
