use Rattle.tabled_places.proofs.DrawnLemmas.{value-shown, Drawn-drawn}
use Rattle.tabled_border_claims.proofs.store.read_alike.Goals as goal

pub returns-clause-values : goal.returns-clause-values
returns-clause-values g c = λ es keep shape size place shows. value-shown es keep shape size place shows

pub returns-clause-lines : goal.returns-clause-lines
returns-clause-lines g c = λ es keep count line shows. Drawn-drawn es keep count line shows
