use Rattle.tabled_width.proofs.TextLaws.{wrapped_same, words_same, truncated_same}
use Rattle.tabled_width.proofs.Heights.{low_stays}
use Rattle.tabled_border_claims.proofs.texts.what_fits_stays.Goals as goal

pub returns-clause-wrapped : goal.returns-clause-wrapped
returns-clause-wrapped c = wrapped_same

pub returns-clause-words : goal.returns-clause-words
returns-clause-words c = words_same

pub returns-clause-truncated : goal.returns-clause-truncated
returns-clause-truncated c = truncated_same

pub returns-clause-shortened : goal.returns-clause-shortened
returns-clause-shortened c = low_stays
