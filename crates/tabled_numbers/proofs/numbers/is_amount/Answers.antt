-- The amount by its first point.
use Rattle.std.proofs.Common.{sym, ap, ◌∙◌, take}
use Rattle.tabled_numbers.specs.Numbers.{is_pointed}
use Rattle.tabled_numbers.proofs.Cuts.{amount_pointed, amount_whole}
use Rattle.tabled_numbers.proofs.numbers.is_amount.Goals as goal

pub returns-in-Some : goal.returns-in-Some
returns-in-Some c =
    c.is_pointed.ensures ∙ ap (λ whole. is_pointed whole c.cut.result.1.now) c.cut.ensures.before ∙ ap (λ fraction. is_pointed (take c.in-Some.point c.args.text.now) fraction) c.cut.ensures.after
    ∙ amount_pointed _ c.in-Some.point (sym c.in-Some.ensures)

pub returns-in-None : goal.returns-in-None
returns-in-None c = c.is_whole.ensures ∙ amount_whole _ (sym c.in-None.ensures)
