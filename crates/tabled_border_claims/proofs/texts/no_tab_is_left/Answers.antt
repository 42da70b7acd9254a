use Rattle.tabled_width.proofs.TabLemmas.{no_tab, without_tabs}
use Rattle.tabled_border_claims.proofs.texts.no_tab_is_left.Goals as goal

pub returns-clause-none : goal.returns-clause-none
returns-clause-none c = no_tab

pub returns-clause-same : goal.returns-clause-same
returns-clause-same c = without_tabs
