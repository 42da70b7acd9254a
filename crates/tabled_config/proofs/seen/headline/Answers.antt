use Rattle.std.proofs.Common.{ap, ◌∙◌}
use Rattle.tabled_places.specs.Event.{replay}
use Rattle.tabled_places.specs.Value.{value}
use Rattle.tabled_places.specs.Drawn.{drawn}
use Rattle.tabled_configuration.specs.Configuration.{characters_of, colors_of}
use Rattle.tabled_config.proofs.MadeInTurn.{lent_shown}
use Rattle.tabled_config.proofs.seen.headline.Goals as goal

pub returns-clause-character : goal.returns-clause-character
returns-clause-character g c = λ options events made.
    c.character_seen.ensures.character options events c.args.cfg.now made c.config-config.ensures
    ∙ ap (λ size. value (replay (characters_of events)) c.args.shape size c.args.place) c.edge_size-size.ensures

pub returns-clause-color : goal.returns-clause-color
returns-clause-color g c = λ options events made.
    c.color_seen.ensures.color options events c.args.cfg.now made c.config-config.ensures
    ∙ ap (λ size. value (replay (colors_of events)) c.args.shape size c.args.place) c.edge_size-size.ensures

pub returns-clause-drawn : goal.returns-clause-drawn
returns-clause-drawn g c = λ options events made.
    c.line_seen.ensures.drawn options events c.args.cfg.now made c.config-config.ensures
    ∙ ap (λ count. drawn (characters_of events) count c.args.line) c.line_count-count.ensures

pub returns-clause-text : goal.returns-clause-text
returns-clause-text g c = λ options events made.
    c.print_plain.ensures.text events (lent_shown options events c.args.cfg.now c.config-config.result.now c.config-config.ensures made)
