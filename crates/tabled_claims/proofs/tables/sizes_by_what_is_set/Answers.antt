-- The option reads the sizes that the contract of the call names.
use Rattle.tabled_grid.proofs.Seen.{on_ok}
use Rattle.tabled_claims.proofs.tables.sizes_by_what_is_set.Goals as goal

pub returns-clause-read : goal.returns-clause-read
returns-clause-read g c = on_ok c.apply.result (λ told. (told.0, told.1.widths, told.1.heights, told.2)) c.apply.ensures.config
