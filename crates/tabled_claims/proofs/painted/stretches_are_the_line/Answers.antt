use Rattle.tabled_claims.proofs.StretchLemmas.{plain_by_stretches}
use Rattle.tabled_claims.proofs.painted.stretches_are_the_line.Goals as goal

pub returns : goal.returns
returns c = plain_by_stretches
