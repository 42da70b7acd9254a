-- Each line of the picture, and so the text, is of characters of which none steers.
use Rattle.tabled_text.specs.TextTable.{text_of}
use Rattle.tabled_claims.proofs.CleanTexts.{quiet_clean, quiet_bytes}
use Rattle.tabled_claims.proofs.CleanPictures.{lines_are_clean, text_quiet}
use Rattle.tabled_claims.proofs.tables.nothing_steers_the_terminal.Goals as goal

pub returns-clause-plain : goal.returns-clause-plain
returns-clause-plain c = λ events table clean writes. quiet_clean (text_of events table) (text_quiet events table clean writes)

pub returns-clause-colored : goal.returns-clause-colored
returns-clause-colored c = λ events table clean writes. lines_are_clean events table clean writes

pub returns-clause-bytes : goal.returns-clause-bytes
returns-clause-bytes c = λ events table clean writes. quiet_bytes (text_of events table) (text_quiet events table clean writes)
