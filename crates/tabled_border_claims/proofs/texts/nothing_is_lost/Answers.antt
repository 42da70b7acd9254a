use Rattle.tabled_width.proofs.RowLaws.{concat_line}
use Rattle.tabled_border_claims.proofs.texts.nothing_is_lost.Goals as goal

pub returns : goal.returns
returns c = concat_line
