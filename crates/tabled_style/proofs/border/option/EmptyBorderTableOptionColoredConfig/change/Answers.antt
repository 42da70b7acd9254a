use Rattle.tabled_configuration.specs.Options.{table_unbordered}
use Rattle.tabled_changes.proofs.ColoredLemmas.{Changes_lent, none_in_table_unbordered}
use Rattle.tabled_style.proofs.border.option.EmptyBorderTableOptionColoredConfig.change.Goals as goal

pub returns-clause-ok : goal.returns-clause-ok
returns-clause-ok g c =
    Changes_lent _ _ c.args.cfg.now _ _ c.config_mut.ensures.value
    (λ i. table_unbordered (c.count_rows.ensures i, c.count_columns.ensures i) (c.config_mut.ensures.value i).characters.class_record) (none_in_table_unbordered _ _) c.remove_frame.ensures
