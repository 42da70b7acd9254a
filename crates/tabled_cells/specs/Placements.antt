-- How the text of each cell stands in it, by what is set for cells.
use Rattle.std.specs.Prelude.{ℕ}
use Rattle.tabled_object.specs.declared.position.Position.{Position}
use Rattle.tabled_settings.specs.declared.cell_settings.CellSettings.{CellSettings}
use Rattle.tabled_settings.specs.Live.{value_at}
use Rattle.tabled_cells.specs.declared.placement.Placement.{Placement}
use Rattle.tabled_cells.specs.Placed.{padding_shown}

-- the placement of the text at a row and a column
unfoldable pub placement_at : CellSettings → ℕ → ℕ → Placement
placement_at settings row col =
    let cell : Position = record { row = row; col = col } in
    record {
      alignment_horizontal = value_at settings.alignment_horizontal cell;
      alignment_vertical = value_at settings.alignment_vertical cell;
      trim_horizontal = value_at settings.trim_horizontal cell;
      trim_vertical = value_at settings.trim_vertical cell;
      line_alignment = value_at settings.line_alignment cell;
      justification = value_at settings.justification cell;
      padding = padding_shown (value_at settings.padding cell);
    }
