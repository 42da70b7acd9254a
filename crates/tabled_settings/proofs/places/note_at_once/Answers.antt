use Rattle.std.proofs.Common.{rules, sym, ◌∙◌}
use Rattle.tabled_settings.proofs.AtOnce.{made_at_once, none_before_all}
use Rattle.tabled_settings.proofs.places.note_at_once.Goals as goal

pub returns-clause-before : goal.returns-clause-before
returns-clause-before g c = λ slots once has end. c.in_ok-before.ensures.items_if_clones_equal (search rules) ∙ sym (none_before_all c.args.places.now slots c.args.events.now c.requires.empty c.requires.rising once has)

pub returns-clause-ok : goal.returns-clause-ok
returns-clause-ok g c = λ slots once has end. made_at_once c.in_ok-places.field-0 c.args.places.now slots c.args.events.now c.args.first c.requires.empty c.in_ok-places.ensures once has end
