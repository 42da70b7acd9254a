use Rattle.tabled_program_claims.proofs.PagesEven.{page_even}
use Rattle.tabled_program_claims.proofs.program.page_is_a_rectangle.Goals as goal

pub returns : goal.returns
returns c = λ style input sound. page_even style input sound
