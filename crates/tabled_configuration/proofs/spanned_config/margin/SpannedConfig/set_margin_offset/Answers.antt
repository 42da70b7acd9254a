use Rattle.std.proofs.Common.{refl}
use Rattle.tabled_configuration.proofs.ConfigurationLemmas.{Changes_by_setting}
use Rattle.tabled_configuration.proofs.spanned_config.margin.SpannedConfig.set_margin_offset.Goals as goal

pub returns : goal.returns
returns c = Changes_by_setting _ c.self.inside.characters c.self.inside.colors c.self.inside.settings _ c.args.self.now c.self.view_is refl
