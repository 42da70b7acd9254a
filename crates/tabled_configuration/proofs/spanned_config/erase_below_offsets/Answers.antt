use Rattle.tabled_configuration.proofs.ConfigurationLemmas.{in_turn}
use Rattle.tabled_configuration.proofs.spanned_config.erase_below_offsets.Goals as goal

pub returns : goal.returns
returns g c = in_turn c.args.layers.now _ _ _ _ c.erase_default.ensures c.erase_class.ensures c.erase_lines.ensures c.erase_cells.ensures
