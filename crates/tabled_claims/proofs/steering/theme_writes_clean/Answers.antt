use Rattle.tabled_claims.specs.Clean.{is_quiet}
use Rattle.tabled_claims.proofs.Characters.{theme_writes}
use Rattle.tabled_claims.proofs.CleanWrites.{clean_only}
use Rattle.tabled_claims.proofs.steering.theme_writes_clean.Goals as goal

pub returns : goal.returns
returns c = λ theme borders horizontals verticals. clean_only _ (theme_writes is_quiet theme borders horizontals verticals)
