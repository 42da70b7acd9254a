use Rattle.std.proofs.Common.{refl}
use Rattle.tabled_configuration.proofs.ConfigurationLemmas.{Changes-writes_applied}
use Rattle.tabled_configuration.proofs.spanned_config.applying.SpannedConfig.apply.Goals as goal

pub returns-clause-ok : goal.returns-clause-ok
returns-clause-ok c = Changes-writes_applied c.write_both.result _ _ _ _ c.args.self.now c.self.view_is refl c.write_both.ensures.ok c.write_both.ensures.others_ok
