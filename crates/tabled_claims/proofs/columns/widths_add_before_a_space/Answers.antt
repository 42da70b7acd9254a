use Rattle.tabled_width.proofs.AfterSpace.{widths_add}
use Rattle.tabled_claims.proofs.columns.widths_add_before_a_space.Goals as goal

pub returns : goal.returns
returns c = λ front text u. widths_add front text u
