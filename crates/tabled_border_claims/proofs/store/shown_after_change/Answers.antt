use Rattle.tabled_places.proofs.Replay.{Shows_after}
use Rattle.tabled_border_claims.proofs.store.shown_after_change.Goals as goal

pub returns : goal.returns
returns g c = λ before es old new changes shows. Shows_after before es old new changes shows
