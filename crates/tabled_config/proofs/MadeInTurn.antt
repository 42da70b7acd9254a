-- What options made in a row is shown.
use Rattle.std.proofs.Common.{◌≡◌, List, [], sym, subst}
use Rattle.tabled_configuration.specs.Configuration.{Configuration, ConfigEvent}
use Rattle.tabled_configuration.specs.Configuration as borders
use Rattle.tabled_configuration.specs.Colored.{Colored, Shows, Changes}
use Rattle.tabled_configuration.specs.ChangeLaws.{none_change, both_change}
use Rattle.tabled_config.specs.Headline.{HaveMade}
use Rattle.tabled_changes.proofs.ColoredLemmas.{Shows_after_change_colored}
use Rattle.tabled_configuration.proofs.InTurn.{by_all_events}

pub made_shown : (options : List (Colored → List ConfigEvent)) (events : List ConfigEvent) (cfg : Colored) → HaveMade options events cfg → Shows events cfg
made_shown options events cfg (new, shows, by) = Shows_after_change_colored [] events new cfg (by_all_events Changes none_change both_change options events new cfg by) shows

-- and so by the configuration of the borders, as it is lent
pub lent_shown : (options : List (Colored → List ConfigEvent)) (events : List ConfigEvent) (cfg : Colored) (lent : Configuration) → lent ≡ cfg.spanned → HaveMade options events cfg → borders.Shows events lent
lent_shown options events cfg lent is made = subst (λ config. borders.Shows events config) (sym is) (made_shown options events cfg made).spanned_shown
