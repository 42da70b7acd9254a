use Rattle.tabled_width.proofs.TabLemmas.{up_to_a_stop}
use Rattle.tabled_border_claims.proofs.Stops.{stop_adds}
use Rattle.tabled_border_claims.proofs.texts.tabs_end_at_stops.Goals as goal

pub returns-clause-stop : goal.returns-clause-stop
returns-clause-stop c = up_to_a_stop

pub returns-clause-adds : goal.returns-clause-adds
returns-clause-adds c = stop_adds
