use Rattle.tabled_rooms.proofs.LawLemmas.{takes, at_home}
use Rattle.tabled_border_claims.proofs.spans.hosts_stand.Goals as goal

pub returns : goal.returns
returns c = record { takes = takes; at_home = at_home }
