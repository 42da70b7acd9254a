use Rattle.std.proofs.Common.{sym, ap, ◌∙◌, ◌&&◌}
use Rattle.tabled_kept.specs.Table.{table}
use Rattle.tabled_kept.specs.Same.{same_map}
use Rattle.tabled_kept.proofs.Ascending.{same-table}
use Rattle.tabled_kept.proofs.KeptLemmas.{same_parts}
use Rattle.tabled_kept.specs.Slots.{slots_total}
use Rattle.tabled_kept.proofs.TableLemmas.{exact_slots}
use Rattle.tabled_kept.proofs.entries.Entries.is_same.Goals as goal

pub returns-then-dense : goal.returns-then-dense
returns-then-dense g c =
    let others = same_map g.V.PartialEq.eq (table g.K.Ord.cmp c.self.inside.others.entries) (table g.K.Ord.cmp c.other.inside.others.entries) in
    c.eq-others.ensures ∙ same-table g.met.K.Ord.total g.K.PartialEq.eq g.V.PartialEq.eq g.met.K.Ord.matches_eq c.self.inside.others.entries c.other.inside.others.entries c.len.ensures.ordered c.len-2.ensures.ordered
    ∙ ap (λ dense. dense && others) (sym c.if-dense.true ∙ c.is_same-dense.ensures)
    ∙ same_parts slots_total exact_slots g.met.K.Ord.total g.met.K.Key.exact g.met.K.Key.back g.V.PartialEq.eq c.self.inside.dense c.other.inside.dense c.self.inside.others.entries c.other.inside.others.entries c.self.invariant.0 c.other.invariant.0
    ∙ (λ i. same_map g.V.PartialEq.eq (table g.K.Ord.cmp (c.self.view_is i)) (table g.K.Ord.cmp (c.other.view_is i)))

pub returns-else-dense : goal.returns-else-dense
returns-else-dense g c =
    let others = same_map g.V.PartialEq.eq (table g.K.Ord.cmp c.self.inside.others.entries) (table g.K.Ord.cmp c.other.inside.others.entries) in
    c.if-dense.false ∙ ap (λ dense. dense && others) (sym c.if-dense.false ∙ c.is_same-dense.ensures)
    ∙ same_parts slots_total exact_slots g.met.K.Ord.total g.met.K.Key.exact g.met.K.Key.back g.V.PartialEq.eq c.self.inside.dense c.other.inside.dense c.self.inside.others.entries c.other.inside.others.entries c.self.invariant.0 c.other.invariant.0
    ∙ (λ i. same_map g.V.PartialEq.eq (table g.K.Ord.cmp (c.self.view_is i)) (table g.K.Ord.cmp (c.other.view_is i)))
