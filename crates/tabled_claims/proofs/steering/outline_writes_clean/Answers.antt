use Rattle.tabled_claims.specs.Clean.{is_quiet}
use Rattle.tabled_claims.proofs.Characters.{outline_writes}
use Rattle.tabled_claims.proofs.CleanWrites.{clean_only}
use Rattle.tabled_claims.proofs.steering.outline_writes_clean.Goals as goal

pub returns : goal.returns
returns c = λ shape entities border diagonal color first second. clean_only _ (outline_writes is_quiet shape entities border diagonal color first second)
