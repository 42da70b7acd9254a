use Rattle.tabled_correction.proofs.CornersStanding.{crossing_joined, horizontal_edge_stays, vertical_edge_stays}
use Rattle.tabled_border_claims.proofs.corners.crossings_are_joined.Goals as goal

pub returns-clause-crossing : goal.returns-clause-crossing
returns-clause-crossing c = λ shape old new changes r d across down. crossing_joined shape old new changes r d across down

pub returns-clause-horizontal_edge : goal.returns-clause-horizontal_edge
returns-clause-horizontal_edge c = λ shape old new changes r d k. horizontal_edge_stays shape old new changes r d k

pub returns-clause-vertical_edge : goal.returns-clause-vertical_edge
returns-clause-vertical_edge c = λ shape old new changes r d k. vertical_edge_stays shape old new changes r d k
