use Rattle.tabled_rooms.proofs.LawLemmas.{alone}
use Rattle.tabled_border_claims.proofs.spans.cells_alone.Goals as goal

pub returns : goal.returns
returns c = alone
