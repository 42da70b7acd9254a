use Rattle.std.proofs.Common.{[], ◌∷◌, ap, ◌∙◌, zip}
use Rattle.tabled_places.specs.CellBorder.{border_fields}
use Rattle.tabled_places.specs.Calls.{places_set}
use Rattle.tabled_places.specs.Writes.{writes_made}
use Rattle.tabled_places.proofs.EntityBorders.{all_at}
use Rattle.tabled_grid.proofs.layers.cell_border.writes_around.Goals as goal

pub returns : goal.returns
returns g c =
    (λ i. writes_made (c.write_at.ensures i ∷ c.write_at-2.ensures i ∷ c.write_at-3.ensures i ∷ c.write_at-4.ensures i ∷ c.write_at-5.ensures i ∷ c.write_at-6.ensures i ∷ c.write_at-7.ensures i ∷ c.write_at-8.ensures i ∷ []))
    ∙ all_at (zip (border_fields c.places-places.result) (border_fields c.args.border))
    ∙ ap (λ places. places_set (zip (border_fields places) (border_fields c.args.border))) c.places-places.ensures
