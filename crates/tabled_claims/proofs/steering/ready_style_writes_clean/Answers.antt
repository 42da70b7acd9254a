use Rattle.tabled_claims.proofs.ReadyPlain.{ready_clean}
use Rattle.tabled_claims.proofs.steering.ready_style_writes_clean.Goals as goal

pub returns : goal.returns
returns c = ready_clean
