use Rattle.tabled_width.proofs.RowLaws.{line_stands}
use Rattle.tabled_border_claims.proofs.texts.rows_fit.Goals as goal

pub returns : goal.returns
returns c = line_stands
