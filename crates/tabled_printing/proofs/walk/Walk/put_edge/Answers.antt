-- As many look-ups as the edge has places.
use Rattle.std.proofs.Common.{rules}
use Rattle.tabled_printing.specs.Viewed.{walk_look}
use Rattle.tabled_printing.proofs.LineLemmas.{edge_count}
use Rattle.tabled_printing.proofs.walk.Walk.put_edge.Goals as goal

pub returns-then-has_offsets-clause-probes : goal.returns-then-has_offsets-clause-probes
returns-then-has_offsets-clause-probes g c =
    let counted = edge_count (walk_look g.D.Dimension.width_of g.D.Dimension.height_of c.args.self.now) c.args.self.now.line c.args.n in
    search rules
