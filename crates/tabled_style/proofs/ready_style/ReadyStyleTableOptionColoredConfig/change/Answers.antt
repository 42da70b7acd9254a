use Rattle.std.proofs.Common.{refl}
use Rattle.tabled_grid.proofs.Seen.{on_ok}
use Rattle.tabled_changes.proofs.ColoredLemmas.{Changes_lent, none_in_borders_replaced}
use Rattle.tabled_style.proofs.ready_style.ReadyStyleTableOptionColoredConfig.change.Goals as goal

pub returns-clause-ok : goal.returns-clause-ok
returns-clause-ok g c =
    on_ok c.replace_borders.result (λ changes. Changes_lent _ _ c.args.cfg.now _ _ c.config_mut.ensures.value refl (none_in_borders_replaced _ _ _) changes)
    c.replace_borders.ensures.ok
