use Rattle.tabled_width.proofs.Ranges.{box_drawing_narrow}
use Rattle.tabled_claims.proofs.columns.box_drawing_is_narrow.Goals as goal

pub returns : goal.returns
returns c = λ character least most. box_drawing_narrow character least most
