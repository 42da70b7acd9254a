use Rattle.std.proofs.Common.{ap, ◌∙◌}
use Rattle.tabled_settings.specs.Live.{value_at}
use Rattle.tabled_settings.proofs.Settling.{value_is_the_setting}
use Rattle.tabled_border_claims.proofs.settings.value_of_a_cell.Goals as goal

pub returns : goal.returns
returns g c = λ default events is. c.get.ensures ∙ ap (λ map. value_at map c.args.cell) is ∙ value_is_the_setting c.args.cell default events
