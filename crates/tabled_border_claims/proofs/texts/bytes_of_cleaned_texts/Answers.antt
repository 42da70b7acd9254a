use Rattle.tabled_clean.proofs.SteeringLemmas.{cleaned_bytes}
use Rattle.tabled_border_claims.proofs.texts.bytes_of_cleaned_texts.Goals as goal

pub returns : goal.returns
returns c = λ text u. cleaned_bytes text u
