-- By the number of the line.
use Rattle.std.proofs.Common.{◌≡◌, ◌↔◌, IsFalse, nat_lt, true, ap, subst, ◌∙◌}
use Rattle.std.specs.Prelude.{None, unwrap_or}
use Rattle.std.specs.FinMap as map
use Rattle.tabled_places.specs.Drawn.{lies_on}
use Rattle.tabled_places.specs.Keys.{spot_cmp}
use Rattle.tabled_places.specs.declared.site.Spot.{Spot}
use Rattle.tabled_grid.proofs.CountedLemmas.{none_on_line}
use Rattle.tabled_grid.proofs.layers.Layers.has_cells_on.Goals as goal

pub returns-clause-value : goal.returns-clause-value
returns-clause-value g c =
    subst (λ (cells : map.FinMap spot_cmp g.row.T.Denot). IsFalse (nat_lt 0 c.unwrap_or.result) ↔ ((spot : Spot) → lies_on c.args.line spot ≡ true → map.get cells spot ≡ None)) (ap (λ kept. kept.cells) c.self.view_is)
    (none_on_line _ _ c.self.invariant.0 c.args.line c.unwrap_or.result (c.unwrap_or.ensures ∙ ap (λ n. unwrap_or n 0) (c.copied.ensures ∙ c.read.ensures.value)))
