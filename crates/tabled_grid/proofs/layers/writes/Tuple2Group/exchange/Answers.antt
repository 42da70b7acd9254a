use Rattle.tabled_places.specs.State.{state_at}
use Rattle.tabled_places.proofs.Replay.{Changes-append}
use Rattle.tabled_grid.proofs.Seen.{if_err}
use Rattle.tabled_places.proofs.WritingAnew.{stays_then, sooner_anew, later_anew}
use Rattle.tabled_grid.proofs.layers.writes.Tuple2Group.exchange.Goals as goal

pub returns-in_err-exchange-clause-absent : goal.returns-in_err-exchange-clause-absent
returns-in_err-exchange-clause-absent g c = if_err c.from_residual.result (sooner_anew (g.A.Group.events c.args.self.now.0) (g.B.Group.events c.args.self.now.1) (state_at c.args.store.now) c.in_err-exchange.ensures.absent)

pub returns-in-Ok-clause-ok : goal.returns-in-Ok-clause-ok
returns-in-Ok-clause-ok g c = Changes-append _ _ _ _ _ c.in_ok-exchange.ensures.ok c.in-Ok.ensures.ok

pub returns-in-Ok-clause-stays : goal.returns-in-Ok-clause-stays
returns-in-Ok-clause-stays g c = stays_then _ _ _ c.in_ok-exchange.ensures.stays c.in-Ok.ensures.stays

pub returns-in-Err-clause-absent : goal.returns-in-Err-clause-absent
returns-in-Err-clause-absent g c = later_anew (g.A.Group.events c.args.self.now.0) (g.B.Group.events c.args.self.now.1) (state_at c.args.store.now) (state_at c.exchange.new.store) c.in_ok-exchange.ensures.stays c.in-Err.ensures.absent
