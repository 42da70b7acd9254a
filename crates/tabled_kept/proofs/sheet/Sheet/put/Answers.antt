use Rattle.std.proofs.Common.{sym, ap, ◌∙◌}
use Rattle.std.specs.FinMap as map
use Rattle.tabled_kept.proofs.SheetLemmas.{read_far, read_near, put_far, put_near}
use Rattle.tabled_kept.proofs.sheet.Sheet.put.Goals as goal

pub returns-in_default-insert-clause-absent : goal.returns-in_default-insert-clause-absent
returns-in_default-insert-clause-absent g c =
    let kept = c.self.inside in
    sym (ap (λ m. map.get m c.args.slot) c.self.view_is)
    ∙ read_far kept.near kept.far.entries c.self.invariant c.args.slot c.in-Some.number (sym c.number.ensures ∙ c.in-Some.is) ∙ c.in_default-insert.ensures.absent

pub invariant_of-self-in-Some : goal.invariant_of-self-in-Some
invariant_of-self-in-Some g c =
    let kept = c.self.inside in
    (put_far kept.near kept.far.entries c.self.invariant c.insert.new.self.entries c.args.slot c.in-Some.number (sym c.number.ensures ∙ c.in-Some.is) c.args.value c.in-Ok.ensures.updates.0).0

pub returns-in-Some-clause-before : goal.returns-in-Some-clause-before
returns-in-Some-clause-before g c =
    let kept = c.self.inside in
    c.in-Ok.ensures.old ∙ sym (read_far kept.near kept.far.entries c.self.invariant c.args.slot c.in-Some.number (sym c.number.ensures ∙ c.in-Some.is))
    ∙ ap (λ m. map.get m c.args.slot) c.self.view_is

pub returns-in-Some-clause-ok : goal.returns-in-Some-clause-ok
returns-in-Some-clause-ok g c =
    let kept = c.self.inside in
    (put_far kept.near kept.far.entries c.self.invariant c.insert.new.self.entries c.args.slot c.in-Some.number (sym c.number.ensures ∙ c.in-Some.is) c.args.value c.in-Ok.ensures.updates.0).1
    ∙ ap (λ m. map.insert m c.args.slot c.args.value) c.self.view_is

pub returns-in_default-put-clause-absent : goal.returns-in_default-put-clause-absent
returns-in_default-put-clause-absent g c =
    let kept = c.self.inside in
    sym (ap (λ m. map.get m c.args.slot) c.self.view_is)
    ∙ read_near kept.near kept.far.entries c.self.invariant c.args.slot (sym c.number.ensures ∙ c.in_default.is) ∙ c.in_default-put.ensures.absent

pub invariant_of-self-2 : goal.invariant_of-self-2
invariant_of-self-2 g c =
    let kept = c.self.inside in
    (put_near kept.near kept.far.entries c.self.invariant c.put.new.self c.args.slot (sym c.number.ensures ∙ c.in_default.is) c.args.value c.in-Ok-put.ensures.ok).0

pub returns-clause-before : goal.returns-clause-before
returns-clause-before g c =
    let kept = c.self.inside in
    c.in-Ok-put.ensures.before ∙ sym (read_near kept.near kept.far.entries c.self.invariant c.args.slot (sym c.number.ensures ∙ c.in_default.is))
    ∙ ap (λ m. map.get m c.args.slot) c.self.view_is

pub returns-clause-ok : goal.returns-clause-ok
returns-clause-ok g c =
    let kept = c.self.inside in
    (put_near kept.near kept.far.entries c.self.invariant c.put.new.self c.args.slot (sym c.number.ensures ∙ c.in_default.is) c.args.value c.in-Ok-put.ensures.ok).1
    ∙ ap (λ m. map.insert m c.args.slot c.args.value) c.self.view_is
