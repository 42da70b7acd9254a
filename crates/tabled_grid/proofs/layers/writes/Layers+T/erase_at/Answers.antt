use Rattle.std.proofs.Common.{[], ◌∷◌, ap, sym, ◌∙◌}
use Rattle.tabled_places.specs.declared.event.Event.TheVariants.{Erase as erase}
use Rattle.tabled_places.specs.declared.event.Region.TheVariants.{One as one_site}
use Rattle.tabled_places.specs.declared.site.Direction.TheVariants.{Horizontal, Vertical}
use Rattle.tabled_places.specs.declared.site.Site.TheVariants.{Offset as at_offset}
use Rattle.tabled_places.specs.Writes.{site_of}
use Rattle.tabled_places.proofs.Changing.{horizontal_offset_erased, vertical_offset_erased}
use Rattle.tabled_grid.proofs.Seen.{seen, changed, as_events, with_horizontal_offsets, with_vertical_offsets}
use Rattle.tabled_grid.proofs.layers.writes.Layers+T.erase_at.Goals as goal

pub returns-in-Horizontal : goal.returns-in-Horizontal
returns-in-Horizontal g c =
    as_events _ _ _ _ (ap (λ t. erase (one_site (site_of t)) ∷ []) c.in-Horizontal.is ∙ ap (λ p. erase (one_site (at_offset Horizontal p.row p.col p.offset)) ∷ []) (sym c.edge_place.ensures))
    (changed _ (seen c.self.inside) c.args.self.now _ _ c.self.view_is (with_horizontal_offsets (seen c.self.inside) _ _ c.take.ensures) (horizontal_offset_erased (seen c.self.inside) c.edge_place.result))

pub returns-in-Vertical : goal.returns-in-Vertical
returns-in-Vertical g c =
    as_events _ _ _ _ (ap (λ t. erase (one_site (site_of t)) ∷ []) c.in-Vertical.is ∙ ap (λ p. erase (one_site (at_offset Vertical p.row p.col p.offset)) ∷ []) (sym c.edge_place-in-Vertical.ensures))
    (changed _ (seen c.self-in-Vertical.inside) c.args.self.now _ _ c.self-in-Vertical.view_is (with_vertical_offsets (seen c.self-in-Vertical.inside) _ _ c.take-in-Vertical.ensures) (vertical_offset_erased (seen c.self-in-Vertical.inside) c.edge_place-in-Vertical.result))
