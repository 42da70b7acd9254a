use Rattle.tabled_claims.specs.Clean.{is_quiet}
use Rattle.tabled_claims.proofs.Characters.{style_writes}
use Rattle.tabled_claims.proofs.CleanWrites.{clean_only}
use Rattle.tabled_claims.proofs.steering.style_writes_clean.Goals as goal

pub returns : goal.returns
returns c = λ style borders horizontals verticals. clean_only _ (style_writes is_quiet style borders horizontals verticals)
