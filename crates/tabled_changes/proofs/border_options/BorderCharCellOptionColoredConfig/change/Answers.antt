use Rattle.tabled_grid.proofs.Seen.{on_ok}
use Rattle.tabled_configuration.specs.Options.{entity_bordered}
use Rattle.tabled_changes.proofs.ColoredLemmas.{Changes_lent, none_in_entity_bordered}
use Rattle.tabled_changes.proofs.border_options.BorderCharCellOptionColoredConfig.change.Goals as goal

pub returns-clause-ok : goal.returns-clause-ok
returns-clause-ok g c =
    on_ok c.set_entity_border.result (λ changes. Changes_lent _ _ c.args.cfg.now _ _ c.config_mut.ensures.value
    (λ i. entity_bordered c.args.self.now (c.count_rows.ensures i, c.count_columns.ensures i) c.args.entity) (none_in_entity_bordered _ _ _) changes) c.set_entity_border.ensures.ok
