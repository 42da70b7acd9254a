use Rattle.tabled_configuration.proofs.InTurn.{Changes-entity_unbordered}
use Rattle.tabled_configuration.proofs.spanned_config.removing.SpannedConfig.remove_entity_border.Goals as goal

pub returns : goal.returns
returns c = Changes-entity_unbordered _ _ c.self.inside.characters _ c.self.inside.colors c.self.inside.settings c.args.self.now c.self.view_is c.erase_entity_border.ensures
