use Rattle.tabled_correction.proofs.Standing.{three_changes}
use Rattle.tabled_border_claims.proofs.spans.each_step_reads_what_stands.Goals as goal

pub returns : goal.returns
returns c = λ shape old between after by_columns by_rows. three_changes shape old between after by_columns by_rows
