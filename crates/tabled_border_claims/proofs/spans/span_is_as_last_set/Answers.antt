use Rattle.tabled_layout.proofs.SpanLemmas.{last_call_counts}
use Rattle.tabled_border_claims.proofs.spans.span_is_as_last_set.Goals as goal

pub returns : goal.returns
returns c = λ events position. last_call_counts events position
