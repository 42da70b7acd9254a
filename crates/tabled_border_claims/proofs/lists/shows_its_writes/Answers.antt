use Rattle.tabled_changes.proofs.ColoredLemmas.{Shows-all_writes_colored}
use Rattle.tabled_configuration.proofs.ConfigurationLemmas.{shown_characters, shown_colors, Shows-all_writes}
use Rattle.tabled_border_claims.proofs.lists.shows_its_writes.Goals as goal

pub returns-clause-characters : goal.returns-clause-characters
returns-clause-characters c = λ cfg. shown_characters cfg

pub returns-clause-colors : goal.returns-clause-colors
returns-clause-colors c = λ cfg. shown_colors cfg

pub returns-clause-spanned : goal.returns-clause-spanned
returns-clause-spanned c = λ es cfg shows. Shows-all_writes cfg es shows

pub returns-clause-colored : goal.returns-clause-colored
returns-clause-colored c = λ es cfg shows. Shows-all_writes_colored es cfg shows
