use Rattle.tabled_changes.proofs.SecondTime.{same_borders, same_configuration, same_colored}
use Rattle.tabled_border_claims.proofs.lists.second_time_changes_nothing.Goals as goal

pub returns-clause-borders : goal.returns-clause-borders
returns-clause-borders c = λ es old between new first again. same_borders es old between new first again

pub returns-clause-spanned : goal.returns-clause-spanned
returns-clause-spanned c = λ es old between new none first again. same_configuration es old between new none first again

pub returns-clause-colored : goal.returns-clause-colored
returns-clause-colored c = λ es old between new none no_colors first again. same_colored es old between new none no_colors first again
