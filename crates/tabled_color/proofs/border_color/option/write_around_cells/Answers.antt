use Rattle.std.proofs.Common.{Some, None, option_copied, ap, sym, subst, ◌∙◌}
use Rattle.tabled_grid.proofs.Seen.{on_ok}
use Rattle.tabled_configuration.specs.Configuration.{Changes, by_colors, default_color_set}
use Rattle.tabled_color.proofs.ColoringLemmas.{found_colored, colors_applied}
use Rattle.tabled_color.proofs.border_color.option.write_around_cells.Goals as goal

pub returns-in_ok-keep-in-Some-clause-ok : goal.returns-in_ok-keep-in-Some-clause-ok
returns-in_ok-keep-in-Some-clause-ok c =
    found_colored (Some c.in-Some.color.now) c.args.colors.now c.args.shape c.args.entity _ _ (sym (ap option_copied c.in-Some.is) ∙ c.one_color_for.ensures)
    (subst (λ color. Changes (by_colors (default_color_set color)) c.args.config.now c.set_border_color_default.new.self) c.in_ok-keep-in-Some.ensures.copy c.set_border_color_default.ensures)

pub returns-in_ok-writes-in-None-clause-ok : goal.returns-in_ok-writes-in-None-clause-ok
returns-in_ok-writes-in-None-clause-ok c =
    on_ok c.apply.result (λ changes.
    found_colored None c.args.colors.now c.args.shape c.args.entity _ _ (sym (ap option_copied c.in-None.is) ∙ c.one_color_for.ensures)
    (subst (λ es. Changes es c.args.config.now c.apply.new.self) (colors_applied _ _ _ c.new.ensures.items c.in_ok-writes-in-None.ensures.ok) changes))
    c.apply.ensures.ok
