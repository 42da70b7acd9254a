-- Nothing stands before a line or above it.
use Rattle.std.proofs.Common.{◌∙◌}
use Rattle.tabled_settings.specs.CellSettings.{first_settings}
use Rattle.tabled_cells.specs.Placements.{placement_at}
use Rattle.tabled_cells.specs.Trimmed.{lines_shown}
use Rattle.tabled_claims.proofs.Unset.{unset_at}
use Rattle.tabled_painting.proofs.Plain.{plain_cell}
use Rattle.tabled_claims.proofs.cells.nothing_set_stands_left_and_top.Goals as goal

pub returns : goal.returns
returns c row col width height colors text line =
    let how = placement_at first_settings row col in
    plain_cell how colors width height (lines_shown how text) line ∙ unset_at row col width height text line
