use Rattle.std.proofs.Common.{◌≡◌, ℕ, ◌+◌, List, ◌++◌, refl, sym, ap, ◌∙◌, flat_map, append-nil, arith}
use Rattle.tabled_object.specs.Entities.{below}
use Rattle.tabled_grid.proofs.Seen.{on_ok}
use Rattle.tabled_correction.specs.Correction.{Write, where_so}
use Rattle.tabled_correction.specs.Corners.{corner_step, horizontal_drawn, vertical_drawn}
use Rattle.tabled_correction.specs.Picture.{pictured}
use Rattle.tabled_correction.proofs.Adding.{one_more}
use Rattle.tabled_correction.proofs.CornerLaws.{line_drawn, line_not_drawn}
use Rattle.tabled_correction.proofs.picture.Picture.join_line.Goals as goal

pub loop-col-preserved : goal.loop-col-preserved
loop-col-preserved c =
    one_more (λ k. where_so (vertical_drawn c.args.self.now.shape c.args.self.now.cfg.now k) (corner_step (pictured c.args.self.now) c.args.row k)) c.loop-col.col c.args.writes.now.items c.loop-col.writes.items c.join_on_line.new.writes.items _
    c.loop-col.invariant c.in_ok-join_on_line.ensures refl

pub returns-then-not-is_horizontal_drawn : goal.returns-then-not-is_horizontal_drawn
returns-then-not-is_horizontal_drawn c =
    let picture = c.args.self.now in
    let before : List Write = c.args.writes.now.items in
    sym (ap (λ xs. before ++ xs) (line_not_drawn (pictured picture) (horizontal_drawn picture.shape picture.cfg.now) (vertical_drawn picture.shape picture.cfg.now) c.args.row (sym c.is_horizontal_drawn.ensures ∙ c.if-not-is_horizontal_drawn.true)) ∙ append-nil before)

pub returns : goal.returns
returns c =
    let picture = c.args.self.now in
    let before : List Write = c.args.writes.now.items in
    let at : ℕ → List Write = λ k. where_so (vertical_drawn picture.shape picture.cfg.now k) (corner_step (pictured picture) c.args.row k) in
    let last : c.loop-col.col ≡ picture.shape.1 = omega arith in
    on_ok c.join_on_line-2.result (λ made.
    one_more at c.loop-col.col before c.loop-col.writes.items c.join_on_line-2.new.writes.items (at picture.shape.1) c.loop-col.invariant made (ap at (sym last))
    ∙ ap (λ n. before ++ flat_map at (below (n + 1))) last
    ∙ ap (λ xs. before ++ xs) (sym (line_drawn (pictured picture) (horizontal_drawn picture.shape picture.cfg.now) (vertical_drawn picture.shape picture.cfg.now) c.args.row (sym c.is_horizontal_drawn.ensures ∙ c.if-not-is_horizontal_drawn.false)))
    ) c.join_on_line-2.ensures
