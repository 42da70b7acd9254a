use Rattle.tabled_width.proofs.Heights.{shortened_fits}
use Rattle.tabled_border_claims.proofs.texts.shortened_lines_are_few.Goals as goal

pub returns : goal.returns
returns c = shortened_fits
