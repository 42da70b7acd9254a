use Rattle.tabled_claims.proofs.ReadyPlain.{ready_narrow}
use Rattle.tabled_claims.proofs.columns.ready_style_writes_narrow.Goals as goal

pub returns : goal.returns
returns c = ready_narrow
