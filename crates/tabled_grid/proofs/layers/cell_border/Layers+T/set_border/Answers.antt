use Rattle.std.proofs.Common.{IsTrue, subst, ◌∙◌}
use Rattle.tabled_places.specs.Event.{Changes}
use Rattle.tabled_places.specs.State.{state_at}
use Rattle.tabled_places.specs.Calls.{writes_anew}
use Rattle.tabled_places.proofs.EntityBorders.{eight_made}
use Rattle.tabled_grid.proofs.Seen.{on_ok, on_err}
use Rattle.tabled_grid.proofs.layers.cell_border.Layers+T.set_border.Goals as goal

pub returns-clause-ok : goal.returns-clause-ok
returns-clause-ok g c =
    on_ok c.exchange.result (subst (λ es. Changes es (state_at c.args.self.now) (state_at c.exchange.new.store)) (eight_made _ _ _ _ _ _ _ _ ∙ c.writes_around.ensures)) c.exchange.ensures.ok

pub returns-clause-absent : goal.returns-clause-absent
returns-clause-absent g c =
    on_err c.exchange.result (subst (λ es. IsTrue (writes_anew (state_at c.args.self.now) es)) (eight_made _ _ _ _ _ _ _ _ ∙ c.writes_around.ensures)) c.exchange.ensures.absent
