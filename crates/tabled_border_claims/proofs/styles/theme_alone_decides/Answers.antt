use Rattle.tabled_places.specs.State.{state_at, class_record_set}
use Rattle.tabled_places.proofs.DrawnLemmas.{value-shown, Drawn-drawn}
use Rattle.tabled_style.specs.Deciding.{written_by}
use Rattle.tabled_theme.specs.Events.{as_style, color_texts}
use Rattle.tabled_theme.proofs.Decided.{characters_shown, colors_shown}
use Rattle.tabled_border_claims.proofs.styles.theme_alone_decides.Goals as goal

pub returns-clause-characters : goal.returns-clause-characters
returns-clause-characters c = λ theme old new shape size place changes.
    value-shown (written_by (as_style theme)) (state_at new.spanned.characters) shape size place (characters_shown theme old.spanned new.spanned changes.spanned_changed)

pub returns-clause-colors : goal.returns-clause-colors
returns-clause-colors c = λ theme old new shape size place changes.
    value-shown (class_record_set (color_texts theme)) (state_at new.spanned.colors) shape size place (colors_shown theme old.spanned new.spanned changes.spanned_changed)

pub returns-clause-lines : goal.returns-clause-lines
returns-clause-lines c = λ theme old new count line changes.
    Drawn-drawn (written_by (as_style theme)) (state_at new.spanned.characters) count line (characters_shown theme old.spanned new.spanned changes.spanned_changed)
