use Rattle.tabled_theme.proofs.Decided.{same_characters_left, same_colors_left, same_places, same_drawn}
use Rattle.tabled_border_claims.proofs.styles.from_style_draws_the_style.Goals as goal

pub returns-clause-characters : goal.returns-clause-characters
returns-clause-characters c = λ style site. same_characters_left style site

pub returns-clause-colors : goal.returns-clause-colors
returns-clause-colors c = λ style site. same_colors_left style site

pub returns-clause-places : goal.returns-clause-places
returns-clause-places c = λ style shape size place. same_places style shape size place

pub returns-clause-lines : goal.returns-clause-lines
returns-clause-lines c = λ style count line. same_drawn style count line
