use Rattle.tabled_places.specs.Keys.{edge_place_cmp}
use Rattle.tabled_kept.specs.Table.{table}
use Rattle.tabled_grid.proofs.RowOffsets.{row_told}
use Rattle.tabled_grid.proofs.layers.levels.has_row.Goals as goal

pub returns-in-Some-clause-value : goal.returns-in-Some-clause-value
returns-in-Some-clause-value g c = row_told (table edge_place_cmp c.args.offsets.now) c.args.row c.in-Some.place c.in-Some.ensures.first
