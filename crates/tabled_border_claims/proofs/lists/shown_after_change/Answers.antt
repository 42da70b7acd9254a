use Rattle.tabled_changes.proofs.ColoredLemmas.{Shows_after_change_colored}
use Rattle.tabled_configuration.proofs.ConfigurationLemmas.{Shows_after_change}
use Rattle.tabled_border_claims.proofs.lists.shown_after_change.Goals as goal

pub returns-clause-spanned : goal.returns-clause-spanned
returns-clause-spanned c = λ before es old new changes shows. Shows_after_change before es old new changes shows

pub returns-clause-colored : goal.returns-clause-colored
returns-clause-colored c = λ before es old new changes shows. Shows_after_change_colored before es old new changes shows
