use Rattle.tabled_width.specs.Narrow.{is_narrow}
use Rattle.tabled_claims.proofs.Characters.{theme_writes}
use Rattle.tabled_claims.proofs.columns.theme_writes_narrow.Goals as goal

pub returns : goal.returns
returns c = λ theme borders horizontals verticals. (theme_writes is_narrow theme borders horizontals verticals).borders
