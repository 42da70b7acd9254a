use Rattle.tabled_configuration.proofs.ConfigurationLemmas.{Changes-borders_set}
use Rattle.tabled_configuration.proofs.spanned_config.SpannedConfig.set_borders.Goals as goal

pub returns : goal.returns
returns c = Changes-borders_set c.args.borders c.self.inside.characters _ c.self.inside.colors c.self.inside.settings c.args.self.now c.self.view_is c.set_class.ensures
