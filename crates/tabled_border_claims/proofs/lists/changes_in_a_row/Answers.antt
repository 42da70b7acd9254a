use Rattle.tabled_configuration.specs.ChangeLaws.{both_change, both_change_borders}
use Rattle.tabled_border_claims.proofs.lists.changes_in_a_row.Goals as goal

pub returns-clause-spanned : goal.returns-clause-spanned
returns-clause-spanned c = λ es fs old between new by_es by_fs. both_change_borders es fs old between new by_es by_fs

pub returns-clause-colored : goal.returns-clause-colored
returns-clause-colored c = λ es fs old between new by_es by_fs. both_change es fs old between new by_es by_fs
