use Rattle.tabled_clean.proofs.SteeringLemmas.{clean_twice}
use Rattle.tabled_border_claims.proofs.texts.cleaned_twice_is_once.Goals as goal

pub returns : goal.returns
returns c = λ text u. clean_twice text u
