use Rattle.tabled_width.proofs.WordLaws.{word_rows_fit}
use Rattle.tabled_border_claims.proofs.texts.word_rows_fit.Goals as goal

pub returns : goal.returns
returns c = word_rows_fit
