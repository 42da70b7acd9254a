use Rattle.tabled_width.proofs.TextLaws.{wrapped_twice, words_twice, truncated_twice}
use Rattle.tabled_border_claims.proofs.texts.limited_twice_is_once.Goals as goal

pub returns-clause-wrapped : goal.returns-clause-wrapped
returns-clause-wrapped c = wrapped_twice

pub returns-clause-words : goal.returns-clause-words
returns-clause-words c = words_twice

pub returns-clause-truncated : goal.returns-clause-truncated
returns-clause-truncated c = truncated_twice
