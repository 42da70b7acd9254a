use Rattle.tabled_configuration.proofs.ConfigurationLemmas.{Changes-borders_removed}
use Rattle.tabled_configuration.proofs.spanned_config.SpannedConfig.remove_borders.Goals as goal

pub returns : goal.returns
returns c = Changes-borders_removed c.self.inside.characters _ c.self.inside.colors c.self.inside.settings c.args.self.now c.self.view_is c.erase_below_offsets.ensures
