use Rattle.std.proofs.Common.{◌∙◌}
use Rattle.tabled_places.specs.State.{state_at}
use Rattle.tabled_places.proofs.DrawnLemmas.{value-shown}
use Rattle.tabled_configuration.specs.Configuration.{characters_of}
use Rattle.tabled_config.proofs.MadeInTurn.{lent_shown}
use Rattle.tabled_config.proofs.seen.character_seen.Goals as goal

pub returns-clause-character : goal.returns-clause-character
returns-clause-character g c = λ options events colored made same.
    c.char_at.ensures.value
    ∙ value-shown (characters_of events) (state_at c.args.cfg.now.characters) c.args.shape c.args.size c.args.place (lent_shown options events colored c.args.cfg.now same made).characters_shown
