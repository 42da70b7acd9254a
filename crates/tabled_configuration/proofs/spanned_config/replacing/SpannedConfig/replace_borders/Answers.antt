use Rattle.tabled_configuration.proofs.Replacing.{Changes-borders_replaced}
use Rattle.tabled_configuration.proofs.spanned_config.replacing.SpannedConfig.replace_borders.Goals as goal

pub returns-clause-ok : goal.returns-clause-ok
returns-clause-ok c = Changes-borders_replaced c.args.class c.args.horizontals.now c.args.verticals.now c.self.inside.characters _ c.self.inside.colors _ c.self.inside.settings c.args.self.now c.self.view_is c.in_ok-characters.ensures.ok c.erase_all.ensures
