use Rattle.tabled_rooms.proofs.LawLemmas.{whole}
use Rattle.tabled_border_claims.proofs.spans.shown_where_it_spans.Goals as goal

pub returns : goal.returns
returns c = whole
