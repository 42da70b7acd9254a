use Rattle.tabled_grid.proofs.Seen.{on_ok}
use Rattle.tabled_configuration.proofs.ConfigurationLemmas.{Changes_by_characters}
use Rattle.tabled_configuration.proofs.spanned_config.cells.SpannedConfig.set_border.Goals as goal

pub returns-clause-ok : goal.returns-clause-ok
returns-clause-ok c = on_ok c.set_border.result (λ e. Changes_by_characters _ c.self.inside.characters _ c.self.inside.colors c.self.inside.settings c.args.self.now c.self.view_is e) c.set_border.ensures.ok
