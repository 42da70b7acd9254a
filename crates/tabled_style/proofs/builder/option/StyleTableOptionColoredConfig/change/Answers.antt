use Rattle.std.proofs.Common.{ap, ◌∙◌}
use Rattle.tabled_grid.proofs.Seen.{on_ok}
use Rattle.tabled_configuration.specs.Configuration.{borders_replaced}
use Rattle.tabled_changes.proofs.ColoredLemmas.{Changes_lent, none_in_borders_replaced}
use Rattle.tabled_style.proofs.builder.option.StyleTableOptionColoredConfig.change.Goals as goal

pub returns-clause-ok : goal.returns-clause-ok
returns-clause-ok g c =
    on_ok c.replace_borders.result (λ changes. Changes_lent _ _ c.args.cfg.now _ _ c.config_mut.ensures.value
    ((λ i. borders_replaced c.self.inside.borders (c.as_slice.ensures i) (c.as_slice-2.ensures i)) ∙ ap (λ shown. borders_replaced shown.borders shown.horizontals shown.verticals) c.self.view_is)
    (none_in_borders_replaced _ _ _) changes)
    c.replace_borders.ensures.ok
