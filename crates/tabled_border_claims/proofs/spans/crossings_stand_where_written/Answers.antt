use Rattle.tabled_correction.proofs.Standing.{replayed_after}
use Rattle.tabled_border_claims.proofs.spans.crossings_stand_where_written.Goals as goal

pub returns : goal.returns
returns c = λ events writes shape place there. replayed_after events writes shape place there
