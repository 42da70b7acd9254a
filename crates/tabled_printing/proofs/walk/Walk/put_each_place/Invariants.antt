-- The places of the edge so far.
use Rattle.std.proofs.Common.{◌*◌, map}
use Rattle.tabled_kept.specs.Probing.{IsRaised}
use Rattle.tabled_object.specs.Entities.{below}
use Rattle.tabled_printing.specs.Picture.{mark_at}
use Rattle.tabled_printing.specs.LinePieces.{edge_of}
use Rattle.tabled_printing.specs.Viewed.{walk_look}
use Rattle.tabled_printing.proofs.walk.Walk.put_each_place.Given as goal

abbrev pub invariant-loop-at : goal.invariant-loop-at
invariant-loop-at g l = record {
  put : g.S.Sink.puts (map (mark_at (walk_look g.D.Dimension.width_of g.D.Dimension.height_of l.self)) (map (edge_of l.self.line l.n) (below l.at))) l.initial.sink l.sink;
  raised : IsRaised (12 * l.at) (g.M.Meter.made l.initial.probes) (g.M.Meter.made l.probes);
}
