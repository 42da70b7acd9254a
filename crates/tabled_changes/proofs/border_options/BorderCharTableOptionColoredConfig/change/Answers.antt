-- The class record that was framed is that of the configuration that was lent.
use Rattle.std.proofs.Common.{ap, ◌∙◌}
use Rattle.tabled_configuration.specs.Configuration.{borders_set}
use Rattle.tabled_configuration.specs.Options.{framed, table_bordered}
use Rattle.tabled_changes.proofs.ColoredLemmas.{Changes_lent, none_in_borders_set}
use Rattle.tabled_changes.proofs.border_options.BorderCharTableOptionColoredConfig.change.Goals as goal

pub returns-clause-ok : goal.returns-clause-ok
unfolding table_bordered
returns-clause-ok g c =
    Changes_lent _ _ c.args.cfg.now _ _ c.config_mut.ensures.value
    (ap borders_set (c.framed-class.ensures ∙ ap (framed c.args.self) (c.get_borders.ensures ∙ ap (λ config. config.characters.class_record) c.config.ensures)))
    (none_in_borders_set _) c.set_borders.ensures
