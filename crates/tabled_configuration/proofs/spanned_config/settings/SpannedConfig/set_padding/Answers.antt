use Rattle.tabled_grid.proofs.Seen.{on_ok}
use Rattle.tabled_configuration.proofs.ConfigurationLemmas.{Changes_by_setting}
use Rattle.tabled_configuration.proofs.spanned_config.settings.SpannedConfig.set_padding.Goals as goal

pub returns-clause-ok : goal.returns-clause-ok
returns-clause-ok c =
    on_ok c.insert.result (λ made. Changes_by_setting _ c.self.inside.characters c.self.inside.colors c.self.inside.settings _ c.args.self.now c.self.view_is (λ i. record c.self.inside.settings { cells = record c.self.inside.settings.cells { padding = made i } })) c.insert.ensures.ok
