use Rattle.tabled_configuration.proofs.ConfigurationLemmas.{Changes_by_characters}
use Rattle.tabled_configuration.proofs.spanned_config.offsets.SpannedConfig.remove_horizontal_char.Goals as goal

pub returns : goal.returns
returns c = Changes_by_characters _ c.self.inside.characters _ c.self.inside.colors c.self.inside.settings c.args.self.now c.self.view_is c.erase_at.ensures
