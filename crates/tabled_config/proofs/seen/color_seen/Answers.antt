use Rattle.std.proofs.Common.{◌∙◌}
use Rattle.tabled_places.specs.State.{state_at}
use Rattle.tabled_places.proofs.DrawnLemmas.{value-shown}
use Rattle.tabled_configuration.specs.Configuration.{colors_of}
use Rattle.tabled_config.proofs.MadeInTurn.{lent_shown}
use Rattle.tabled_config.proofs.seen.color_seen.Goals as goal

pub returns-clause-color : goal.returns-clause-color
returns-clause-color g c = λ options events colored made same.
    c.color_at.ensures.value
    ∙ value-shown (colors_of events) (state_at c.args.cfg.now.colors) c.args.shape c.args.size c.args.place (lent_shown options events colored c.args.cfg.now same made).colors_shown
