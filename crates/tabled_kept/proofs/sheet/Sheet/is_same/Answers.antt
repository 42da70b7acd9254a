use Rattle.std.proofs.Common.{sym, ap, ◌∙◌, ◌&&◌}
use Rattle.tabled_kept.specs.Same.{same_map}
use Rattle.tabled_kept.proofs.SheetLemmas.{same_sheets}
use Rattle.tabled_kept.proofs.sheet.Sheet.is_same.Goals as goal

pub returns-then-far : goal.returns-then-far
returns-then-far g c =
    c.is_same-near.ensures
    ∙ ap (λ far. far && same_map g.V.PartialEq.eq c.self.inside.near c.other.inside.near) (sym c.if-far.true ∙ c.eq-far.ensures)
    ∙ same_sheets g.V.PartialEq.eq c.self.inside.near c.other.inside.near c.self.inside.far.entries c.other.inside.far.entries c.self.invariant c.other.invariant c.len.ensures.ordered c.len-2.ensures.ordered
    ∙ (λ i. same_map g.V.PartialEq.eq (c.self.view_is i) (c.other.view_is i))

pub returns-else-far : goal.returns-else-far
returns-else-far g c =
    c.if-far.false
    ∙ ap (λ far. far && same_map g.V.PartialEq.eq c.self.inside.near c.other.inside.near) (sym c.if-far.false ∙ c.eq-far.ensures)
    ∙ same_sheets g.V.PartialEq.eq c.self.inside.near c.other.inside.near c.self.inside.far.entries c.other.inside.far.entries c.self.invariant c.other.invariant c.len.ensures.ordered c.len-2.ensures.ordered
    ∙ (λ i. same_map g.V.PartialEq.eq (c.self.view_is i) (c.other.view_is i))
