use Rattle.tabled_width.proofs.LimitedLaws.{limited_fits}
use Rattle.tabled_border_claims.proofs.texts.limited_lines_fit.Goals as goal

pub returns : goal.returns
returns c = limited_fits
