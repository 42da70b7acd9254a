use Rattle.tabled_configuration.proofs.ConfigurationLemmas.{everything_erased}
use Rattle.tabled_configuration.proofs.spanned_config.erase_all.Goals as goal

pub returns : goal.returns
returns g c = everything_erased c.args.layers.now _ _ _ c.erase_below_offsets.ensures c.erase_horizontal_offsets.ensures c.erase_vertical_offsets.ensures
