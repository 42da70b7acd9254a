use Rattle.tabled_width.specs.Narrow.{is_narrow}
use Rattle.tabled_claims.proofs.Characters.{style_writes}
use Rattle.tabled_claims.proofs.columns.style_writes_narrow.Goals as goal

pub returns : goal.returns
returns c = λ style borders horizontals verticals. (style_writes is_narrow style borders horizontals verticals).borders
