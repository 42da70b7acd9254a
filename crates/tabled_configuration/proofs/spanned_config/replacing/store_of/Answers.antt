use Rattle.tabled_configuration.proofs.Replacing.{shows_all}
use Rattle.tabled_configuration.proofs.spanned_config.replacing.store_of.Goals as goal

pub returns-clause-ok : goal.returns-clause-ok
returns-clause-ok c = shows_all _ _ _ c.new-store.result _ _ c.set_class.new.self c.new-store.ensures c.in_ok-put_horizontals.ensures.ok c.in_ok-put_verticals.ensures.ok c.set_class.ensures
