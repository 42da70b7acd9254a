use Rattle.tabled_object.proofs.Sets.{listed_in_a_row, listed_without}
use Rattle.tabled_border_claims.proofs.objects.listed_by_two.Goals as goal

pub returns-clause-in_a_row : goal.returns-clause-in_a_row
returns-clause-in_a_row c = listed_in_a_row

pub returns-clause-without : goal.returns-clause-without
returns-clause-without c = listed_without
