use Rattle.std.proofs.Common.{ap}
use Rattle.tabled_printing.specs.Picture.{marks_along}
use Rattle.tabled_printing.proofs.LookLemmas.{kept_look}
use Rattle.tabled_theme.specs.Events.{theme_applied}
use Rattle.tabled_theme.proofs.Decided.{own_characters_shown, own_colors_shown}
use Rattle.tabled_border_claims.proofs.styles.theme_decides_marks.Goals as goal

pub returns : goal.returns
returns c = λ theme old new events shape widths heights line changes shows.
    ap (λ view. marks_along view line)
    (kept_look new.spanned events (theme_applied theme) shape widths heights shows.spanned_shown.characters_shown shows.spanned_shown.colors_shown
    (own_characters_shown theme old.spanned new.spanned changes.spanned_changed) (own_colors_shown theme old.spanned new.spanned changes.spanned_changed))
