-- The pieces so far.
use Rattle.std.proofs.Common.{◌+◌, ◌*◌, length, map}
use Rattle.tabled_kept.specs.Probing.{IsRaised}
use Rattle.tabled_printing.specs.Picture.{Look, mark_at}
use Rattle.tabled_printing.specs.LinePieces.{places_before}
use Rattle.tabled_printing.specs.Viewed.{walk_look}
use Rattle.tabled_printing.proofs.walk.Walk.put_all.Given as goal

abbrev pub invariant-loop-n : goal.invariant-loop-n
invariant-loop-n g l =
    let view : Look = walk_look g.D.Dimension.width_of g.D.Dimension.height_of l.self in
    record {
      put : g.S.Sink.puts (map (mark_at view) (places_before view l.self.line l.n)) l.initial.sink l.sink;
      raised : IsRaised (12 * length (places_before view l.self.line l.n) + 5 * l.n) (g.M.Meter.made l.initial.probes) (g.M.Meter.made l.probes);
    }
