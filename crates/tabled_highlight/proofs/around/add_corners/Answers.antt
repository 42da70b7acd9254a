use Rattle.std.proofs.Common.{ap, refl}
use Rattle.tabled_places.specs.declared.site.Spot.TheVariants.{Crossing}
use Rattle.tabled_places.specs.Writes.{writes_made}
use Rattle.tabled_grid.proofs.Seen.{on_ok}
use Rattle.tabled_highlight.specs.Around.{unless}
use Rattle.tabled_highlight.proofs.Adding.{nothing_more, one_more}
use Rattle.tabled_highlight.proofs.around.add_corners.Goals as goal

pub returns : goal.returns
returns g c =
    let row = c.args.pos.row in
    let col = c.args.pos.col in
    on_ok c.add.result (λ last.
    one_more _ _ _ _ _ _ _ _ (λ i. Crossing (c.line_after-below.ensures i) (c.line_after-right.ensures i)) c.crossing_value-right_bottom.ensures
    (one_more _ _ _ _ _ _ _ _ (ap (λ line. Crossing line col) c.line_after-below.ensures) (ap (unless c.args.near.left) c.crossing_value-left_bottom.ensures)
    (one_more _ _ _ _ _ _ _ _ (ap (λ line. Crossing row line) c.line_after-right.ensures) (λ i. unless (c.share_upper_right.ensures i) (c.crossing_value-right_top.ensures i))
    (one_more _ _ _ _ _ _ _ _ refl (λ i. unless (c.share_upper_left.ensures i) (c.crossing_value-left_top.ensures i)) (nothing_more (writes_made c.args.writes.now.items)) c.in_ok-add_unless.ensures)
    c.in_ok-add_unless-2.ensures)
    c.in_ok-add_unless-3.ensures)
    last)
    c.add.ensures
