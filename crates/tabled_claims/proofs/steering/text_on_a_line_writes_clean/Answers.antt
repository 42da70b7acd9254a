use Rattle.tabled_claims.specs.Clean.{is_quiet}
use Rattle.tabled_claims.proofs.Characters.{line_char_writes, text_writes}
use Rattle.tabled_claims.proofs.CleanWrites.{clean_only}
use Rattle.tabled_claims.proofs.steering.text_on_a_line_writes_clean.Goals as goal

pub returns-clause-character : goal.returns-clause-character
returns-clause-character c = λ s mark shape entity clean. clean_only _ (line_char_writes is_quiet mark shape entity clean)

pub returns-clause-text : goal.returns-clause-text
returns-clause-text c = λ s text view line clean. clean_only _ (text_writes is_quiet text view line clean)
