use Rattle.tabled_width.proofs.TextLaws.{wrapped_fits, wrapped_words_fits}
use Rattle.tabled_border_claims.proofs.texts.wrapped_lines_fit.Goals as goal

pub returns-clause-wrapped : goal.returns-clause-wrapped
returns-clause-wrapped c = wrapped_fits

pub returns-clause-words : goal.returns-clause-words
returns-clause-words c = wrapped_words_fits
