use Rattle.tabled_program_claims.proofs.CleanViews.{view_clean, view_clear}
use Rattle.tabled_program_claims.proofs.viewing.page_steers_nothing.Goals as goal

pub returns-clause-plain : goal.returns-clause-plain
returns-clause-plain c = view_clean

pub returns-clause-colored : goal.returns-clause-colored
returns-clause-colored c = view_clear
