use Rattle.tabled_configuration.proofs.ConfigurationLemmas.{Changes_by_colors, default_color_in_turn}
use Rattle.tabled_configuration.proofs.spanned_config.colors.SpannedConfig.set_border_color_default.Goals as goal

pub returns : goal.returns
returns c = Changes_by_colors _ c.self.inside.characters c.self.inside.colors _ c.self.inside.settings c.args.self.now c.self.view_is (default_color_in_turn c.args.color c.self.inside.colors _ _ _ c.set_default.ensures c.erase_class.ensures c.erase_cells.ensures)
