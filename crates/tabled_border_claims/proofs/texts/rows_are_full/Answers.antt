use Rattle.tabled_width.proofs.FullRows.{line_full}
use Rattle.tabled_border_claims.proofs.texts.rows_are_full.Goals as goal

pub returns : goal.returns
returns c = line_full
