-- Without custom lines nothing is refused.
use Rattle.std.proofs.Common.{[], refl}
use Rattle.tabled_configuration.proofs.InTurn.{where_sure}
use Rattle.tabled_changes.proofs.ColoredLemmas.{Changes_lent, none_in_borders_replaced}
use Rattle.tabled_changes.proofs.colored_config.BordersCharTableOptionColoredConfig.change.Goals as goal

pub returns-clause-ok : goal.returns-clause-ok
returns-clause-ok g c =
    Changes_lent _ _ c.args.cfg.now _ _ c.config_mut.ensures.value refl (none_in_borders_replaced c.args.self [] [])
    (where_sure c.replace_borders.result (c.replace_borders.ensures.without_lines refl refl) c.replace_borders.ensures.ok)
