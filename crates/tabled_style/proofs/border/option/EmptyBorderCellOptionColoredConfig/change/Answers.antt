use Rattle.tabled_configuration.specs.Options.{entity_unbordered}
use Rattle.tabled_changes.proofs.ColoredLemmas.{Changes_lent, none_in_entity_unbordered}
use Rattle.tabled_style.proofs.border.option.EmptyBorderCellOptionColoredConfig.change.Goals as goal

pub returns-clause-ok : goal.returns-clause-ok
returns-clause-ok g c =
    Changes_lent _ _ c.args.cfg.now _ _ c.config_mut.ensures.value
    (λ i. entity_unbordered (c.count_rows.ensures i, c.count_columns.ensures i) c.args.entity) (none_in_entity_unbordered _ _) c.remove_entity_border.ensures
