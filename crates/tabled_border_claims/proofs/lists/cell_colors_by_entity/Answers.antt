use Rattle.tabled_changes.proofs.ColorsLemmas.{by_entity}
use Rattle.tabled_border_claims.proofs.lists.cell_colors_by_entity.Goals as goal

pub returns : goal.returns
returns c = λ events cell. by_entity events cell
