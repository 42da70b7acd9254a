use Rattle.std.proofs.Common.{ap, ◌&&◌}
use Rattle.tabled_object.specs.Entities.{is_inside}
use Rattle.tabled_object.proofs.Sets.{covered_alike}
use Rattle.tabled_highlight.proofs.Made.{same_events}
use Rattle.tabled_border_claims.proofs.outlines.outline_without_order.Goals as goal

pub returns-clause-same_cells : goal.returns-clause-same_cells
returns-clause-same_cells c = λ these those rows cols border diagonal color same. same_events these those rows cols border diagonal color same

pub returns-clause-same_entities : goal.returns-clause-same_entities
returns-clause-same_entities c = λ these those rows cols border diagonal color among.
    same_events these those rows cols border diagonal color (λ cell. ap (λ b. is_inside rows cols cell && b) (covered_alike these those cell among))
