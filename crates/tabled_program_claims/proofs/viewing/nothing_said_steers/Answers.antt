use Rattle.tabled_program_claims.proofs.CleanSaid.{noted_clean, said_clean}
use Rattle.tabled_program_claims.proofs.viewing.nothing_said_steers.Goals as goal

pub returns-clause-refusals : goal.returns-clause-refusals
returns-clause-refusals c = λ words refusal all. (said_clean words refusal all).1

pub returns-clause-notes : goal.returns-clause-notes
returns-clause-notes c = λ notes. (noted_clean notes).1
