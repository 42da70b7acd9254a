use Rattle.tabled_correction.proofs.CornersStanding.{written_arms}
use Rattle.tabled_border_claims.proofs.corners.arms_are_those_of_the_edges.Goals as goal

pub returns : goal.returns
returns c = λ shape cfg r d changed. written_arms shape cfg r d changed
