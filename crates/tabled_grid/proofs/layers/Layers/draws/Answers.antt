use Rattle.std.proofs.Common.{true, sym, subst, ◌∙◌, ◌↔◌, IsTrue, arith}
use Rattle.tabled_places.specs.Drawn.{Drawn}
use Rattle.tabled_places.specs.State.{state_at}
use Rattle.tabled_grid.proofs.DrawnBy.{class_answer}
use Rattle.tabled_grid.proofs.Seen.{seen}
use Rattle.tabled_grid.proofs.layers.Layers.draws.Goals as goal

pub returns-then-class_draws-clause-drawn : goal.returns-then-class_draws-clause-drawn
returns-then-class_draws-clause-drawn g c =
    subst (λ k. IsTrue true ↔ Drawn (state_at k) c.args.count c.args.line) c.self.view_is
    (class_answer (seen c.self.inside) c.args.count c.args.line (omega (arith, c.number.ensures, c.if-number-count.false)) (sym c.class_draws.ensures.drawn ∙ c.if-class_draws.true))
