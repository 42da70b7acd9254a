use Rattle.tabled_width.specs.Narrow.{is_narrow}
use Rattle.tabled_claims.proofs.Characters.{outline_writes}
use Rattle.tabled_claims.proofs.columns.outline_writes_narrow.Goals as goal

pub returns : goal.returns
returns c = λ shape entities border diagonal color first second. (outline_writes is_narrow shape entities border diagonal color first second).borders
