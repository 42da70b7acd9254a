use Rattle.std.proofs.Common.{[], ◌∷◌, ap, sym, ◌∙◌}
use Rattle.tabled_places.specs.declared.event.Written.TheVariants.{Sign as sign}
use Rattle.tabled_places.specs.declared.event.Event.TheVariants.{Write as write}
use Rattle.tabled_places.specs.declared.site.Direction.TheVariants.{Horizontal, Vertical}
use Rattle.tabled_places.specs.declared.site.Site.TheVariants.{Cell as at_spot, Offset as at_offset}
use Rattle.tabled_places.specs.Writes.{site_of}
use Rattle.tabled_places.proofs.Changing.{cell_set, horizontal_offset_set, vertical_offset_set}
use Rattle.tabled_grid.proofs.CountedLemmas.{small_number, cell_either}
use Rattle.tabled_grid.proofs.Seen.{seen, changed, on_ok, as_events, with_cells, with_horizontal_offsets, with_vertical_offsets}
use Rattle.tabled_grid.proofs.layers.writes.Layers+T.replace.Goals as goal

pub put_cell-requires : goal.put_cell-requires
put_cell-requires g c = small_number _ _ c.self.invariant.0

pub invariant_of-self : goal.invariant_of-self
invariant_of-self g c = (cell_either _ _ c.self.invariant.0 c.put_cell.result _ _ _ c.args.value c.put_cell.ensures.ok c.put_cell.ensures.counted c.put_cell.ensures.err c.put_cell.ensures.err_counted c.put_cell.ensures.few, c.self.invariant.1, c.self.invariant.2)

pub returns-in-Cell-clause-ok : goal.returns-in-Cell-clause-ok
returns-in-Cell-clause-ok g c =
    on_ok c.put_cell.result (λ e. as_events _ _ _ _ (ap (λ t. write (site_of t) (sign c.args.value) ∷ []) c.in-Cell.is ∙ ap (λ s. write (at_spot s) (sign c.args.value) ∷ []) (sym c.spot.ensures))
    (changed _ (seen c.self.inside) c.args.self.now _ _ c.self.view_is (with_cells (seen c.self.inside) _ _ e) (cell_set (seen c.self.inside) c.spot.result c.args.value))) c.put_cell.ensures.ok

pub returns-in-Horizontal-clause-ok : goal.returns-in-Horizontal-clause-ok
returns-in-Horizontal-clause-ok g c =
    on_ok c.insert.result (λ e. as_events _ _ _ _ (ap (λ t. write (site_of t) (sign c.args.value) ∷ []) c.in-Horizontal.is ∙ ap (λ p. write (at_offset Horizontal p.row p.col p.offset) (sign c.args.value) ∷ []) (sym c.edge_place.ensures))
    (changed _ (seen c.self.inside) c.args.self.now _ _ c.self.view_is (with_horizontal_offsets (seen c.self.inside) _ _ e) (horizontal_offset_set (seen c.self.inside) c.edge_place.result c.args.value))) c.insert.ensures.ok

pub returns-in-Vertical-clause-ok : goal.returns-in-Vertical-clause-ok
returns-in-Vertical-clause-ok g c =
    on_ok c.insert-in-Vertical.result (λ e. as_events _ _ _ _ (ap (λ t. write (site_of t) (sign c.args.value) ∷ []) c.in-Vertical.is ∙ ap (λ p. write (at_offset Vertical p.row p.col p.offset) (sign c.args.value) ∷ []) (sym c.edge_place-in-Vertical.ensures))
    (changed _ (seen c.self.inside) c.args.self.now _ _ c.self.view_is (with_vertical_offsets (seen c.self.inside) _ _ e) (vertical_offset_set (seen c.self.inside) c.edge_place-in-Vertical.result c.args.value))) c.insert-in-Vertical.ensures.ok
