use Rattle.std.proofs.Common.{sym, ◌∙◌}
use Rattle.tabled_kept.specs.Table.{table}
use Rattle.tabled_kept.specs.Same.{same_map}
use Rattle.tabled_kept.proofs.EmptyMaps.{of_none, of_some}
use Rattle.tabled_kept.proofs.SameGets.{nothing_alike, empty_beside, beside_empty}
use Rattle.tabled_kept.proofs.counted_map.CountedMap+K+V.is_same.Goals as goal

pub returns-in-Some-None : goal.returns-in-Some-None
returns-in-Some-None g c =
    let arm = c.in-Some-None in
    let there = of_some _ _ _ arm.entries c.self.view_is arm.is-0 ∙ sym c.deref-in-Some-None.ensures in
    let missing = of_none _ _ _ c.other.view_is arm.is-1 in
    empty_beside g.met.K.Ord.total g.met.K.Key.exact g.V.PartialEq.eq c.is_empty.result _ c.is_empty.ensures
    ∙ (λ i. same_map g.V.PartialEq.eq (table g.K.Ord.cmp (sym there i)) (table g.K.Ord.cmp (sym missing i)))

pub returns-in-None-Some : goal.returns-in-None-Some
returns-in-None-Some g c =
    let arm = c.in-None-Some in
    let there = of_some _ _ _ arm.others c.other.view_is arm.is-1 ∙ sym c.deref-in-None-Some.ensures in
    let missing = of_none _ _ _ c.self.view_is arm.is-0 in
    beside_empty g.met.K.Ord.total g.met.K.Key.exact g.V.PartialEq.eq c.is_empty-in-None-Some.result _ c.is_empty-in-None-Some.ensures
    ∙ (λ i. same_map g.V.PartialEq.eq (table g.K.Ord.cmp (sym missing i)) (table g.K.Ord.cmp (sym there i)))

pub returns-in-None-None : goal.returns-in-None-None
returns-in-None-None g c =
    let one = of_none _ _ _ c.self.view_is c.in-None-None.is-0 in
    let other = of_none _ _ _ c.other.view_is c.in-None-None.is-1 in
    nothing_alike g.met.K.Ord.total g.met.K.Key.exact g.V.PartialEq.eq
    ∙ (λ i. same_map g.V.PartialEq.eq (table g.K.Ord.cmp (sym one i)) (table g.K.Ord.cmp (sym other i)))
