use Rattle.std.proofs.Common.{◌≡◌, ℕ, ◌+◌, List, ◌++◌, refl, sym, ap, ◌∙◌, flat_map, arith}
use Rattle.tabled_object.specs.Entities.{below}
use Rattle.tabled_correction.specs.Correction.{Write}
use Rattle.tabled_grid.proofs.Seen.{on_ok}
use Rattle.tabled_correction.specs.Corners.{horizontal_drawn, vertical_drawn, line_joined, joined_corners}
use Rattle.tabled_correction.specs.Picture.{pictured}
use Rattle.tabled_correction.proofs.Adding.{one_more}
use Rattle.tabled_correction.proofs.picture.Picture.join_corners.Goals as goal

pub loop-row-preserved : goal.loop-row-preserved
loop-row-preserved c =
    one_more (line_joined (pictured c.args.self.now) (horizontal_drawn c.args.self.now.shape c.args.self.now.cfg.now) (vertical_drawn c.args.self.now.shape c.args.self.now.cfg.now)) c.loop-row.row c.args.writes.now.items c.loop-row.writes.items c.join_line.new.writes.items _
    c.loop-row.invariant c.in_ok-join_line.ensures refl

pub returns : goal.returns
unfolding joined_corners
returns c =
    let picture = c.args.self.now in
    let before : List Write = c.args.writes.now.items in
    let at : ℕ → List Write = line_joined (pictured picture) (horizontal_drawn picture.shape picture.cfg.now) (vertical_drawn picture.shape picture.cfg.now) in
    let last : c.loop-row.row ≡ picture.shape.0 = omega arith in
    on_ok c.join_line-2.result (λ made.
    one_more at c.loop-row.row before c.loop-row.writes.items c.join_line-2.new.writes.items (at picture.shape.0) c.loop-row.invariant made (ap at (sym last))
    ∙ ap (λ n. before ++ flat_map at (below (n + 1))) last) c.join_line-2.ensures
