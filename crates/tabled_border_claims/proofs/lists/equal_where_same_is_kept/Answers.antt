use Rattle.tabled_configuration.proofs.SameConfigurationLemmas.{same_configuration-exact, same_colored-exact}
use Rattle.tabled_border_claims.proofs.lists.equal_where_same_is_kept.Goals as goal

pub returns-clause-spanned : goal.returns-clause-spanned
returns-clause-spanned c = λ a b. same_configuration-exact a b

pub returns-clause-colored : goal.returns-clause-colored
returns-clause-colored c = λ a b. same_colored-exact a b
