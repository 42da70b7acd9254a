use Rattle.std.proofs.Common.{sym, subst}
use Rattle.tabled_places.specs.Calls.{spot_of}
use Rattle.tabled_configuration.specs.Configuration.{Changes, by_colors}
use Rattle.tabled_configuration.specs.ChangeLaws.{none_change_borders}
use Rattle.tabled_color.specs.Coloring.{spot_cleared}
use Rattle.tabled_color.proofs.border_color.option.clear_if_none.Goals as goal

pub returns-in-Some : goal.returns-in-Some
returns-in-Some c =
    subst (λ color. Changes (by_colors (spot_cleared (spot_of c.args.place) color)) c.args.config.now c.args.config.now) (sym c.in-Some.is) (none_change_borders c.args.config.now)
