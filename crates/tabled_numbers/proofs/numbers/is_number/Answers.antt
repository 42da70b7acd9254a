-- A number without its percent sign and its sign.
use Rattle.std.proofs.Common.{ap, ◌∙◌}
use Rattle.tabled_numbers.specs.Numbers.{is_number, is_scaled, without_percent, without_sign}
use Rattle.tabled_numbers.proofs.numbers.is_number.Goals as goal

pub returns : goal.returns
unfolding is_number
returns c =
    c.is_scaled.ensures ∙ ap is_scaled c.without_sign.ensures ∙ ap (λ bytes. is_scaled (without_sign bytes)) c.without_percent.ensures
    ∙ ap (λ bytes. is_scaled (without_sign (without_percent bytes))) c.as_bytes.ensures.value
