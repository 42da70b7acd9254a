use Rattle.std.proofs.Common.{is_some, ap, subst, ◌∙◌, ◌↔◌, IsTrue}
use Rattle.tabled_places.specs.Drawn.{Drawn}
use Rattle.tabled_places.specs.State.{state_at, class_draws}
use Rattle.tabled_grid.proofs.DrawnBy.{row_left, col_left}
use Rattle.tabled_grid.proofs.Seen.{seen}
use Rattle.tabled_grid.proofs.layers.Layers.draws_above.Goals as goal

pub returns-in-Horizontal-clause-drawn : goal.returns-in-Horizontal-clause-drawn
returns-in-Horizontal-clause-drawn g c =
    subst (λ k. IsTrue c.is_drawn.result ↔ Drawn (state_at k) c.args.count c.args.line) c.self.view_is
    (row_left (seen c.self.inside) _ _ _ c.self.invariant.0 c.self.invariant.1 c.self.invariant.2 c.args.count c.args.line _ c.is_drawn.result c.in-Horizontal.is c.requires.there
    (ap (λ k. is_some k.default_value) c.self.view_is ∙ ap is_some c.requires.default) (ap (λ k. class_draws k.class_record c.args.count c.args.line) c.self.view_is ∙ c.requires.class) c.is_drawn.ensures.drawn)

pub returns-in-Vertical-clause-drawn : goal.returns-in-Vertical-clause-drawn
returns-in-Vertical-clause-drawn g c =
    subst (λ k. IsTrue c.is_drawn-in-Vertical.result ↔ Drawn (state_at k) c.args.count c.args.line) c.self.view_is
    (col_left (seen c.self.inside) _ _ _ c.self.invariant.0 c.self.invariant.1 c.self.invariant.2 c.args.count c.args.line _ c.is_drawn-in-Vertical.result c.in-Vertical.is c.requires.there
    (ap (λ k. is_some k.default_value) c.self.view_is ∙ ap is_some c.requires.default) (ap (λ k. class_draws k.class_record c.args.count c.args.line) c.self.view_is ∙ c.requires.class) c.is_drawn-in-Vertical.ensures.drawn)
