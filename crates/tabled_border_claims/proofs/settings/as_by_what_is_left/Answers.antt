use Rattle.tabled_settings.proofs.SettingsLemmas.{as_by_what_is_left}
use Rattle.tabled_border_claims.proofs.settings.as_by_what_is_left.Goals as goal

pub returns : goal.returns
returns c = λ events. as_by_what_is_left events
