use Rattle.std.proofs.Common.{◌∙◌}
use Rattle.tabled_places.specs.State.{state_at}
use Rattle.tabled_places.proofs.DrawnLemmas.{value-shown}
use Rattle.tabled_border_claims.proofs.store.value_of_a_place.Goals as goal

pub returns-clause-value : goal.returns-clause-value
returns-clause-value g c = λ events shows. c.at.ensures.value ∙ value-shown events (state_at c.args.store.now) c.args.shape c.args.size c.args.place shows
