use Rattle.tabled_configuration.specs.SameConfiguration.{same_stores}
use Rattle.tabled_configuration.proofs.SameConfigurationLemmas.{second_answers}
use Rattle.tabled_configuration.proofs.spanned_config.equality.SpannedConfig.has_same_stores.Goals as goal

pub returns-then-eq : goal.returns-then-eq
unfolding same_stores
returns-then-eq c = second_answers c.eq.result c.eq-then-eq.result _ _ _ c.eq.ensures c.if-eq.true c.eq-then-eq.ensures (λ i. same_stores (c.self.view_is i) (c.other.view_is i))
