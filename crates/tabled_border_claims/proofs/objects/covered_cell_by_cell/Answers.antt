use Rattle.tabled_object.proofs.Sets.{covered_by_both, covered_by_frame, covered_by_inverse}
use Rattle.tabled_border_claims.proofs.objects.covered_cell_by_cell.Goals as goal

pub returns-clause-both : goal.returns-clause-both
returns-clause-both c = covered_by_both

pub returns-clause-inverse : goal.returns-clause-inverse
returns-clause-inverse c = covered_by_inverse

pub returns-clause-outermost : goal.returns-clause-outermost
returns-clause-outermost c = covered_by_frame
