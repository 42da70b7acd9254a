use Rattle.std.proofs.Common.{ap}
use Rattle.tabled_places.specs.State.{state_at}
use Rattle.tabled_places.specs.Calls.{offset_set}
use Rattle.tabled_places.proofs.Replay.{Changes-nil}
use Rattle.tabled_grid.proofs.Seen.{as_events}
use Rattle.tabled_grid.proofs.layers.Layers+T.set_offset.Goals as goal

pub returns-in-Cross-clause-ok : goal.returns-in-Cross-clause-ok
returns-in-Cross-clause-ok g c = as_events _ _ _ _ (ap (λ p. offset_set p c.args.offset c.args.value) c.in-Cross.is) (Changes-nil (state_at c.args.self.now))
