use Rattle.tabled_claims.proofs.CleanWrites.{justification_clean}
use Rattle.tabled_claims.proofs.steering.justification_writes_clean.Goals as goal

pub returns : goal.returns
returns c = λ given entity clean. justification_clean given entity clean
