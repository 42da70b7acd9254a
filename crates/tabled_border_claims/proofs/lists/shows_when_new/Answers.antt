use Rattle.tabled_changes.proofs.ColoredLemmas.{new_shows, given_shows}
use Rattle.tabled_border_claims.proofs.lists.shows_when_new.Goals as goal

pub returns-clause-new : goal.returns-clause-new
returns-clause-new c = λ es config shows none. new_shows es config shows none

pub returns-clause-with_colors : goal.returns-clause-with_colors
returns-clause-with_colors c = λ es config colors shows. given_shows es config colors shows
