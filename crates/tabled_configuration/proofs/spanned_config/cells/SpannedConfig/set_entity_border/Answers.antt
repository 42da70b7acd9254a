use Rattle.tabled_grid.proofs.Seen.{on_ok}
use Rattle.tabled_configuration.proofs.InTurn.{Changes-entity_bordered}
use Rattle.tabled_configuration.proofs.spanned_config.cells.SpannedConfig.set_entity_border.Goals as goal

pub returns-clause-ok : goal.returns-clause-ok
returns-clause-ok c = on_ok c.set_entity_border.result (λ set. Changes-entity_bordered _ _ _ c.self.inside.characters _ c.self.inside.colors c.self.inside.settings c.args.self.now c.self.view_is set) c.set_entity_border.ensures.ok
