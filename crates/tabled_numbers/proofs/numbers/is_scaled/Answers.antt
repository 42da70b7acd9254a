-- The text by its first letter of an exponent.
use Rattle.std.proofs.Common.{◌≡◌, true, false, take, drop, ◌+◌, ◌&&◌, ap, sym, ◌∙◌}
use Rattle.tabled_numbers.specs.Numbers.{are_digits, is_amount, without_sign}
use Rattle.tabled_numbers.proofs.Cuts.{scaled, unscaled}
use Rattle.tabled_numbers.proofs.numbers.is_scaled.Goals as goal

pub returns-then-is_amount : goal.returns-then-is_amount
returns-then-is_amount c =
    let amount : is_amount (take c.in-Some.letter c.args.text.now) ≡ true = ap is_amount (sym c.cut.ensures.before) ∙ (cc) in
    c.are_digits.ensures ∙ ap are_digits c.without_sign.ensures ∙ ap (λ bytes. are_digits (without_sign bytes)) c.cut.ensures.after
    ∙ ap (λ b. b && are_digits (without_sign (drop (c.in-Some.letter + 1) c.args.text.now))) (sym amount)
    ∙ scaled _ c.in-Some.letter (sym c.in-Some.ensures)

pub returns-else-is_amount : goal.returns-else-is_amount
returns-else-is_amount c =
    let amount : is_amount (take c.in-Some.letter c.args.text.now) ≡ false = ap is_amount (sym c.cut.ensures.before) ∙ (cc) in
    let same : c.is_amount.result ≡ false = cc in
    same ∙ ap (λ b. b && are_digits (without_sign (drop (c.in-Some.letter + 1) c.args.text.now))) (sym amount)
    ∙ scaled _ c.in-Some.letter (sym c.in-Some.ensures)

pub returns-in-None : goal.returns-in-None
returns-in-None c = c.is_amount-in-None.ensures ∙ unscaled _ (sym c.in-None.ensures)
