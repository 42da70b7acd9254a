use Rattle.tabled_places.proofs.Replay.{Changes-append}
use Rattle.tabled_border_claims.proofs.store.changes_in_a_row.Goals as goal

pub returns : goal.returns
returns g c = λ es fs old between new by_es by_fs. Changes-append es fs old between new by_es by_fs
