use Rattle.tabled_places.specs.State.{state_at}
use Rattle.tabled_places.proofs.DrawnLemmas.{drawn-answer}
use Rattle.tabled_configuration.specs.Configuration.{characters_of}
use Rattle.tabled_config.proofs.MadeInTurn.{lent_shown}
use Rattle.tabled_config.proofs.seen.line_seen.Goals as goal

pub returns-clause-drawn : goal.returns-clause-drawn
returns-clause-drawn g c = λ options events colored made same.
    drawn-answer (characters_of events) (state_at c.args.cfg.now.characters) c.args.count c.args.line c.draws.result (lent_shown options events colored c.args.cfg.now same made).characters_shown c.draws.ensures.drawn
