-- A theme applied: its lines and its class record, and then its class colors.
use Rattle.std.proofs.Common.{◌≡◌, [], subst}
use Rattle.tabled_places.specs.declared.borders.Borders.{Borders}
use Rattle.tabled_places.specs.State.{class_record_set}
use Rattle.tabled_border.specs.Texts.{Texts}
use Rattle.tabled_configuration.specs.Configuration.{Configuration, Changes, by_colors, cell_color_event, cell_colors_of}
use Rattle.tabled_configuration.proofs.ConfigurationLemmas.{both_passed_over}
use Rattle.tabled_changes.proofs.ColoredLemmas.{none_by_colors, none_in_borders_replaced}
use Rattle.tabled_configuration.specs.ChangeLaws.{both_change_borders}
use Rattle.tabled_theme.specs.Shown.{ThemeShown}
use Rattle.tabled_theme.specs.Events.{as_style, color_texts, style_applied, theme_applied}

pub applied_in_turn : (theme : ThemeShown) (colors : Borders Texts) (old lent between new : Configuration) → colors ≡ color_texts theme → lent ≡ old
    → Changes (style_applied (as_style theme)) lent between → Changes (by_colors (class_record_set colors)) between new → Changes (theme_applied theme) old new
unfolding theme_applied
applied_in_turn theme colors old lent between new texts is replaced colored =
    both_change_borders (style_applied (as_style theme)) (by_colors (class_record_set (color_texts theme))) old between new
    (subst (λ cfg. Changes (style_applied (as_style theme)) cfg between) is replaced)
    (subst (λ given. Changes (by_colors (class_record_set given)) between new) texts colored)

-- none of its events is one of the colors of cells
pub none_in_theme_applied : (theme : ThemeShown) → cell_colors_of (theme_applied theme) ≡ []
unfolding theme_applied style_applied
none_in_theme_applied theme =
    both_passed_over cell_color_event (style_applied (as_style theme)) (by_colors (class_record_set (color_texts theme)))
    (none_in_borders_replaced (as_style theme).borders (as_style theme).horizontals (as_style theme).verticals) (none_by_colors (class_record_set (color_texts theme)))
