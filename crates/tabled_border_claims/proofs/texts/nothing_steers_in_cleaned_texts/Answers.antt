use Rattle.tabled_clean.proofs.SteeringLemmas.{cleaned_is_clean}
use Rattle.tabled_border_claims.proofs.texts.nothing_steers_in_cleaned_texts.Goals as goal

pub returns : goal.returns
returns c = λ text u. cleaned_is_clean text u
