use Rattle.tabled_correction.proofs.CornersStanding.{joined_once}
use Rattle.tabled_border_claims.proofs.corners.corners_stay_joined.Goals as goal

pub returns : goal.returns
returns c = λ shape old new changes. joined_once shape old new changes
