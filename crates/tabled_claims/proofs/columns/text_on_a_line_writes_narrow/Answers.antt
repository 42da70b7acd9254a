use Rattle.tabled_width.specs.Narrow.{is_narrow}
use Rattle.tabled_claims.proofs.Characters.{line_char_writes, text_writes}
use Rattle.tabled_claims.proofs.columns.text_on_a_line_writes_narrow.Goals as goal

pub returns-clause-character : goal.returns-clause-character
returns-clause-character c = λ s mark shape entity narrow. (line_char_writes is_narrow mark shape entity narrow).borders

pub returns-clause-text : goal.returns-clause-text
returns-clause-text c = λ s text view line narrow. (text_writes is_narrow text view line narrow).borders
