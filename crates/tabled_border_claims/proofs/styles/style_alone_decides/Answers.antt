use Rattle.tabled_places.specs.State.{state_at}
use Rattle.tabled_places.proofs.DrawnLemmas.{value-shown, Drawn-drawn}
use Rattle.tabled_style.specs.Deciding.{written_by}
use Rattle.tabled_style.proofs.Decided.{characters_shown, colorless}
use Rattle.tabled_border_claims.proofs.styles.style_alone_decides.Goals as goal

pub returns-clause-characters : goal.returns-clause-characters
returns-clause-characters c = λ style old new shape size place changes.
    value-shown (written_by style) (state_at new.spanned.characters) shape size place (characters_shown style old.spanned new.spanned changes.spanned_changed)

pub returns-clause-colors : goal.returns-clause-colors
returns-clause-colors c = λ style old new shape size place changes. colorless style old.spanned new.spanned shape size place changes.spanned_changed

pub returns-clause-lines : goal.returns-clause-lines
returns-clause-lines c = λ style old new count line changes.
    Drawn-drawn (written_by style) (state_at new.spanned.characters) count line (characters_shown style old.spanned new.spanned changes.spanned_changed)
