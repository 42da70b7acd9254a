use Rattle.tabled_configuration.proofs.ConfigurationLemmas.{Changes_by_colors}
use Rattle.tabled_configuration.proofs.spanned_config.offsets.SpannedConfig.remove_horizontal_char_color.Goals as goal

pub returns : goal.returns
returns c = Changes_by_colors _ c.self.inside.characters c.self.inside.colors _ c.self.inside.settings c.args.self.now c.self.view_is c.erase_at.ensures
