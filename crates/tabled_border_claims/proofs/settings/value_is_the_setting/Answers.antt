use Rattle.tabled_settings.proofs.Settling.{value_is_the_setting}
use Rattle.tabled_border_claims.proofs.settings.value_is_the_setting.Goals as goal

pub returns : goal.returns
returns g c = λ default events cell. value_is_the_setting cell default events
