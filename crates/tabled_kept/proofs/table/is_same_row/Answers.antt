use Rattle.std.proofs.Common.{◌∙◌}
use Rattle.std.specs.Cmp.{nat_cmp_total}
use Rattle.std.specs.FinMap as map
use Rattle.tabled_kept.proofs.SameGets.{nothing_alike, empty_beside, beside_empty}
use Rattle.tabled_kept.proofs.SameRows.{same_lent}
use Rattle.tabled_kept.proofs.table.is_same_row.Goals as goal

pub returns-in-Some-None : goal.returns-in-Some-None
returns-in-Some-None g c =
    let arm = c.in-Some-None in
    empty_beside nat_cmp_total map.nat_cmp-IsAntisymmetric g.V.PartialEq.eq c.is_empty.result arm.row.now c.is_empty.ensures
    ∙ same_lent g.V.PartialEq.eq c.args.row c.args.other _ _ arm.is-0 arm.is-1

pub returns-in-None-Some : goal.returns-in-None-Some
returns-in-None-Some g c =
    let arm = c.in-None-Some in
    beside_empty nat_cmp_total map.nat_cmp-IsAntisymmetric g.V.PartialEq.eq c.is_empty-in-None-Some.result arm.other.now c.is_empty-in-None-Some.ensures
    ∙ same_lent g.V.PartialEq.eq c.args.row c.args.other _ _ arm.is-0 arm.is-1

pub returns-in-None-None : goal.returns-in-None-None
returns-in-None-None g c =
    nothing_alike nat_cmp_total map.nat_cmp-IsAntisymmetric g.V.PartialEq.eq
    ∙ same_lent g.V.PartialEq.eq c.args.row c.args.other _ _ c.in-None-None.is-0 c.in-None-None.is-1
