use Rattle.std.proofs.Common.{ap, refl}
use Rattle.tabled_places.specs.declared.site.Direction.TheVariants.{Horizontal, Vertical}
use Rattle.tabled_places.specs.declared.site.Spot.TheVariants.{Edge}
use Rattle.tabled_places.specs.Writes.{writes_made}
use Rattle.tabled_grid.proofs.Seen.{on_ok}
use Rattle.tabled_highlight.proofs.Adding.{nothing_more, one_more}
use Rattle.tabled_highlight.proofs.around.add_sides.Goals as goal

pub returns : goal.returns
returns g c =
    let row = c.args.pos.row in
    let col = c.args.pos.col in
    on_ok c.add-4.result (λ last.
    one_more _ _ _ _ _ _ _ _ (ap (λ line. Edge Vertical row line) c.line_after-2.ensures) c.down_value-2.ensures
    (one_more _ _ _ _ _ _ _ _ refl c.down_value.ensures
    (one_more _ _ _ _ _ _ _ _ (ap (λ line. Edge Horizontal line col) c.line_after.ensures) c.across_value-2.ensures
    (one_more _ _ _ _ _ _ _ _ refl c.across_value.ensures (nothing_more (writes_made c.args.writes.now.items)) c.in_ok-add.ensures)
    c.in_ok-add-2.ensures)
    c.in_ok-add-3.ensures)
    last)
    c.add-4.ensures
