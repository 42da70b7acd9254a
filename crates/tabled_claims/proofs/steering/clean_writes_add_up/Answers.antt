use Rattle.std.proofs.Common.{ap}
use Rattle.std.specs.List.{list_all}
use Rattle.tabled_claims.specs.Clean.{is_clean_write}
use Rattle.tabled_claims.proofs.CleanWrites.{clean_append, clean_without}
use Rattle.tabled_claims.proofs.steering.clean_writes_add_up.Goals as goal

pub returns-clause-both : goal.returns-clause-both
returns-clause-both c = λ before events first second. clean_append before events first second

pub returns-clause-no_characters : goal.returns-clause-no_characters
returns-clause-no_characters c = λ events none unfilled. clean_without events (ap (list_all is_clean_write) none) unfilled
