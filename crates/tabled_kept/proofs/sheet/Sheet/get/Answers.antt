use Rattle.std.proofs.Common.{sym, ap, ◌∙◌}
use Rattle.std.specs.FinMap as map
use Rattle.tabled_kept.proofs.SheetLemmas.{read_far, read_near}
use Rattle.tabled_kept.proofs.sheet.Sheet.get.Goals as goal

pub returns-in-Some : goal.returns-in-Some
returns-in-Some g c =
    let kept = c.self.inside in
    c.far_value.ensures ∙ sym (read_far kept.near kept.far.entries c.self.invariant c.args.slot c.in-Some.number (sym c.number.ensures ∙ c.in-Some.is))
    ∙ ap (λ m. map.get m c.args.slot) c.self.view_is

pub returns-in-None : goal.returns-in-None
returns-in-None g c =
    let kept = c.self.inside in
    c.get.ensures ∙ sym (read_near kept.near kept.far.entries c.self.invariant c.args.slot (sym c.number.ensures ∙ c.in-None.is))
    ∙ ap (λ m. map.get m c.args.slot) c.self.view_is
