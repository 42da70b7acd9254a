-- What the configuration returns is how the table looks.
use Rattle.std.proofs.Common.{◌∙◌}
use Rattle.tabled_places.specs.Drawn.{drawn}
use Rattle.tabled_configuration.specs.Configuration.{all_writes, characters_of}
use Rattle.tabled_printing.proofs.LineLemmas.{crossed_is}
use Rattle.tabled_printing.proofs.LookLemmas.{own_drawn}
use Rattle.tabled_options.proofs.table_line.TableLine.is_crossed.Goals as goal

pub returns : goal.returns
returns g c =
    let cfg = c.args.self.now.cfg.now in
    let shape = c.args.self.now.shape in
    own_drawn cfg c.pieces.result c.crossing_line-line.result c.draws.result c.draws.ensures.drawn
    ∙ (λ i. drawn (characters_of (all_writes cfg)) (c.pieces.ensures i) (c.crossing_line-line.ensures i))
    ∙ crossed_is (all_writes cfg) shape (g.D.Dimension.width_of c.args.self.now.dims.now) (g.D.Dimension.height_of c.args.self.now.dims.now) c.args.self.now.line c.args.n
