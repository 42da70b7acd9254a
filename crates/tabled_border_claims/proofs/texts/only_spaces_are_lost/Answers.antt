use Rattle.tabled_width.proofs.Spaces.{line_spaced}
use Rattle.tabled_border_claims.proofs.texts.only_spaces_are_lost.Goals as goal

pub returns : goal.returns
returns c = line_spaced
