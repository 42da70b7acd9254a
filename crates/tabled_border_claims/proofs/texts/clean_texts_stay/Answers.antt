use Rattle.tabled_clean.proofs.SteeringLemmas.{clean_stays}
use Rattle.tabled_border_claims.proofs.texts.clean_texts_stay.Goals as goal

pub returns : goal.returns
returns c = λ text u e. clean_stays text u e
