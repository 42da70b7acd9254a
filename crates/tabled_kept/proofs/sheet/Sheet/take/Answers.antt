use Rattle.std.proofs.Common.{sym, ap, ◌∙◌}
use Rattle.std.specs.FinMap as map
use Rattle.tabled_kept.proofs.SheetLemmas.{read_far, read_near, take_far, take_near}
use Rattle.tabled_kept.proofs.sheet.Sheet.take.Goals as goal

pub invariant_of-self : goal.invariant_of-self
invariant_of-self g c =
    let kept = c.self.inside in
    (take_far kept.near kept.far.entries c.self.invariant c.remove-before.new.self.entries c.args.slot c.in-Some.number (sym c.number.ensures ∙ c.in-Some.is) c.remove-before.ensures.updates.0).0

pub returns-in-Some-clause-before : goal.returns-in-Some-clause-before
returns-in-Some-clause-before g c =
    let kept = c.self.inside in
    c.remove-before.ensures.value ∙ sym (read_far kept.near kept.far.entries c.self.invariant c.args.slot c.in-Some.number (sym c.number.ensures ∙ c.in-Some.is))
    ∙ ap (λ m. map.get m c.args.slot) c.self.view_is

pub returns-in-Some-clause-removed : goal.returns-in-Some-clause-removed
returns-in-Some-clause-removed g c =
    let kept = c.self.inside in
    (take_far kept.near kept.far.entries c.self.invariant c.remove-before.new.self.entries c.args.slot c.in-Some.number (sym c.number.ensures ∙ c.in-Some.is) c.remove-before.ensures.updates.0).1
    ∙ ap (λ m. map.remove m c.args.slot) c.self.view_is

pub invariant_of-self-2 : goal.invariant_of-self-2
invariant_of-self-2 g c =
    let kept = c.self.inside in
    (take_near kept.near kept.far.entries c.self.invariant c.take-before.new.self c.args.slot (sym c.number.ensures ∙ c.in_default.is) c.take-before.ensures.removed).0

pub returns-clause-before : goal.returns-clause-before
returns-clause-before g c =
    let kept = c.self.inside in
    c.take-before.ensures.before ∙ sym (read_near kept.near kept.far.entries c.self.invariant c.args.slot (sym c.number.ensures ∙ c.in_default.is))
    ∙ ap (λ m. map.get m c.args.slot) c.self.view_is

pub returns-clause-removed : goal.returns-clause-removed
returns-clause-removed g c =
    let kept = c.self.inside in
    (take_near kept.near kept.far.entries c.self.invariant c.take-before.new.self c.args.slot (sym c.number.ensures ∙ c.in_default.is) c.take-before.ensures.removed).1
    ∙ ap (λ m. map.remove m c.args.slot) c.self.view_is
