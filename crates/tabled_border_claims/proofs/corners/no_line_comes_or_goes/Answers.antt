use Rattle.tabled_correction.proofs.CornersStanding.{horizontal_stays, vertical_stays}
use Rattle.tabled_border_claims.proofs.corners.no_line_comes_or_goes.Goals as goal

pub returns-clause-horizontal : goal.returns-clause-horizontal
returns-clause-horizontal c = λ shape old new changes n. horizontal_stays shape old new changes n

pub returns-clause-vertical : goal.returns-clause-vertical
returns-clause-vertical c = λ shape old new changes n. vertical_stays shape old new changes n
