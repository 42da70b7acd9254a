use Rattle.tabled_configuration.proofs.InTurn.{one_more, none_made, by_all_events}
use Rattle.tabled_border_claims.proofs.lists.steps_in_turn.Goals as goal

pub returns-clause-none : goal.returns-clause-none
returns-clause-none g c = λ cfg. none_made g.C.Configured.changes cfg

pub returns-clause-one_more : goal.returns-clause-one_more
returns-clause-one_more g c = λ steps step made old between new by one. one_more g.C.Configured.changes steps step made old between new by one

pub returns-clause-all : goal.returns-clause-all
returns-clause-all g c = λ steps made old new by. by_all_events g.C.Configured.changes g.C.Configured.none_change g.C.Configured.both_change steps made old new by
