use Rattle.tabled_places.proofs.Writing.{Shows-writes_of}
use Rattle.tabled_border_claims.proofs.store.shows_its_writes.Goals as goal

pub returns : goal.returns
returns g c = λ state. Shows-writes_of state
