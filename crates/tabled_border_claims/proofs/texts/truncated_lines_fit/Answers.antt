use Rattle.tabled_width.proofs.TextLaws.{truncated_fits}
use Rattle.tabled_border_claims.proofs.texts.truncated_lines_fit.Goals as goal

pub returns : goal.returns
returns c = truncated_fits
