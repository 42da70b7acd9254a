-- Entities whose texts stand between left and right, in a row.
use Rattle.std.specs.Prelude.{List, flat_map}
use Rattle.tabled_settings.specs.declared.alignment.AlignmentHorizontal.{AlignmentHorizontal}
use Rattle.tabled_settings.specs.CellSettings.{of_alignment_horizontal}
use Rattle.tabled_settings.specs.Setting.{EntityEvent}
use Rattle.tabled_configuration.specs.Configuration.{ConfigEvent, by_setting}

-- the events of a list of writes and removals
unfoldable pub entities_aligned : List (EntityEvent AlignmentHorizontal) → List ConfigEvent
entities_aligned list = flat_map (λ event. by_setting (of_alignment_horizontal event)) list
