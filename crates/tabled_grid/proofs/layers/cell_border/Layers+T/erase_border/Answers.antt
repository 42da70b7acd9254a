use Rattle.tabled_places.proofs.CellBorders.{erased_then, erased_at}
use Rattle.tabled_grid.proofs.layers.cell_border.Layers+T.erase_border.Goals as goal

pub returns : goal.returns
returns g c =
    erased_at c.args.pos c.places-places.result _ _ c.places-places.ensures
    (erased_then _ _ _ _ _ (erased_then _ _ _ _ _ (erased_then _ _ _ _ _ (erased_then _ _ _ _ _ (erased_then _ _ _ _ _ (erased_then _ _ _ _ _ (erased_then _ _ _ _ _
    c.erase_place.ensures c.erase_place-2.ensures) c.erase_place-3.ensures) c.erase_place-4.ensures) c.erase_place-5.ensures) c.erase_place-6.ensures) c.erase_place-7.ensures) c.erase_place-8.ensures)
