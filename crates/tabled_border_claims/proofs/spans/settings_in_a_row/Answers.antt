use Rattle.tabled_layout.proofs.LayoutLemmas.{settings_after-append}
use Rattle.tabled_border_claims.proofs.spans.settings_in_a_row.Goals as goal

pub returns : goal.returns
returns c = λ settings es fs. settings_after-append settings es fs
