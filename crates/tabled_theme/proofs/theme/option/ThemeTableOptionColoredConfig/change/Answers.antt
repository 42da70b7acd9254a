use Rattle.std.proofs.Common.{refl, ap, ◌∙◌}
use Rattle.tabled_changes.proofs.ColoredLemmas.{Changes_spanned}
use Rattle.tabled_theme.specs.Events.{color_texts}
use Rattle.tabled_theme.proofs.Applying.{applied_in_turn, none_in_theme_applied}
use Rattle.tabled_theme.proofs.theme.option.ThemeTableOptionColoredConfig.change.Goals as goal

pub returns-in-Ok-clause-ok : goal.returns-in-Ok-clause-ok
returns-in-Ok-clause-ok g c =
    Changes_spanned _ c.args.cfg.now _ (none_in_theme_applied c.args.self) refl
    (applied_in_turn c.args.self c.in_ok-colors.colors c.args.cfg.now.spanned c.config_mut-config.result.now c.replace_characters.new.config c.set_borders_color.new.self
    (c.in_ok-colors.ensures ∙ ap color_texts c.self.view_is) c.config_mut-config.ensures.value c.in-Ok.ensures.ok c.set_borders_color.ensures)
