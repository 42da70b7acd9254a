use Rattle.tabled_width.proofs.LimitedLaws.{printable_can_fit}
use Rattle.tabled_border_claims.proofs.texts.printable_texts_can_fit.Goals as goal

pub returns : goal.returns
returns c = printable_can_fit
