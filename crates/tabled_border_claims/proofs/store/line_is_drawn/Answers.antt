use Rattle.tabled_places.specs.State.{state_at}
use Rattle.tabled_places.proofs.DrawnLemmas.{Drawn-drawn}
use Rattle.tabled_border_claims.proofs.store.line_is_drawn.Goals as goal

pub returns-clause-drawn : goal.returns-clause-drawn
returns-clause-drawn g c = λ events shows.
    let drawn = Drawn-drawn events (state_at c.args.store.now) c.args.count c.args.line shows in
    (λ holds. drawn.0 (c.draws.ensures.drawn.0 holds), λ holds. c.draws.ensures.drawn.1 (drawn.1 holds))
