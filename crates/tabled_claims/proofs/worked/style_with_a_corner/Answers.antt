-- The style, and then the corner.
use Rattle.std.proofs.Common.{ℕ, [], Some, OnOk, refl, subst}
use Rattle.tabled_border.specs.declared.border.Border.{Border}
use Rattle.tabled_object.specs.declared.entity.Entity.TheVariants.{Cell}
use Rattle.tabled_object.specs.declared.records.Shape.{Shape}
use Rattle.tabled_grid.proofs.Seen.{on_ok}
use Rattle.tabled_configuration.specs.Colored.{Changes}
use Rattle.tabled_configuration.specs.Configuration.{borders_replaced}
use Rattle.tabled_configuration.specs.Options.{MakesInTurn, entity_bordered}
use Rattle.tabled_style.specs.Shown.{StyleShown}
use Rattle.tabled_claims.proofs.worked.style_with_a_corner.Goals as goal

pub returns : goal.returns
unfolding MakesInTurn
returns c =
    let styled = subst (λ (style : StyleShown). Changes (borders_replaced style.borders style.horizontals style.verticals) c.args.cfg.now c.change.new.cfg) c.ascii.ensures c.in_ok-change.ensures.ok in
    let inside = subst (λ (shape : Shape). OnOk c.change-2.result (Changes (entity_bordered (record c.empty.result { left_top_corner = Some 35 }) (shape.rows, shape.cols) (Cell 1 1)) c.change.new.cfg c.change-2.new.cfg)) c.change.ensures.records c.change-2.ensures.ok in
    let last = subst (λ (border : Border ℕ). OnOk c.change-2.result (Changes (entity_bordered (record border { left_top_corner = Some 35 }) (2, 2) (Cell 1 1)) c.change.new.cfg c.change-2.new.cfg)) c.empty.ensures inside in
    on_ok c.change-2.result (λ cornered. (c.change.new.cfg, _, styled, (c.change-2.new.cfg, [], cornered, (refl, refl), refl), refl)) last
