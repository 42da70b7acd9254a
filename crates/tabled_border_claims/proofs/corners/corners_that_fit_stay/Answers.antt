use Rattle.tabled_correction.proofs.CornersStanding.{all_fit}
use Rattle.tabled_border_claims.proofs.corners.corners_that_fit_stay.Goals as goal

pub returns : goal.returns
returns c = λ shape cfg fit. all_fit shape cfg fit
