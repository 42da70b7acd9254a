use Rattle.tabled_grid.proofs.Seen.{on_ok}
use Rattle.tabled_configuration.proofs.ConfigurationLemmas.{Changes_by_characters}
use Rattle.tabled_configuration.proofs.spanned_config.lines.SpannedConfig.insert_vertical_line.Goals as goal

pub returns-clause-ok : goal.returns-clause-ok
returns-clause-ok c = on_ok c.insert_vline.result (λ e. Changes_by_characters _ c.self.inside.characters _ c.self.inside.colors c.self.inside.settings c.args.self.now c.self.view_is e) c.insert_vline.ensures.ok
