use Rattle.tabled_claims.proofs.StretchLemmas.{in_color_by_stretches}
use Rattle.tabled_claims.proofs.painted.line_in_color_is_its_stretches.Goals as goal

pub returns : goal.returns
returns c = in_color_by_stretches
