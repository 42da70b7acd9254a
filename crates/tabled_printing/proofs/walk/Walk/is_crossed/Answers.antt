-- A line is drawn where the configuration says so.
use Rattle.std.proofs.Common.{◌∙◌}
use Rattle.tabled_places.specs.Drawn.{drawn}
use Rattle.tabled_configuration.specs.Configuration.{all_writes, characters_of}
use Rattle.tabled_printing.proofs.LookLemmas.{own_drawn}
use Rattle.tabled_printing.proofs.walk.Walk.is_crossed.Goals as goal

pub returns-clause-value : goal.returns-clause-value
returns-clause-value g c =
    let cfg = c.args.self.now.cfg.now in
    own_drawn cfg c.pieces_of-count.result c.crossing_line.result c.draws.result c.draws.ensures.drawn
    ∙ (λ i. drawn (characters_of (all_writes cfg)) (c.pieces_of-count.ensures i) (c.crossing_line.ensures i))
