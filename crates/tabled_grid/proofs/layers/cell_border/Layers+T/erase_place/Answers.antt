use Rattle.tabled_places.proofs.CellBorders.{nothing_erased, cell_erased_there}
use Rattle.tabled_grid.proofs.layers.cell_border.Layers+T.erase_place.Goals as goal

pub returns-in-Some : goal.returns-in-Some
returns-in-Some g c = cell_erased_there c.args.place c.in-Some.place _ _ c.in-Some.is c.erase_cell.ensures

pub returns-in_default : goal.returns-in_default
returns-in_default g c = nothing_erased c.args.place _ c.in_default.is
