-- The pieces so far, and what the next crossing shows.
use Rattle.std.proofs.Common.{◌≡◌, ◌<◌, map}
use Rattle.tabled_places.specs.declared.place.Place.{Place}
use Rattle.tabled_places.specs.declared.place.LineOf.{LineOf}
use Rattle.tabled_printing.specs.LinePieces.{places_before}
use Rattle.tabled_printing.specs.Marks.{mark_of}
use Rattle.tabled_printing.specs.Picture.{Look, mark_at}
use Rattle.tabled_printing.specs.Beside.{plain_mark}
use Rattle.tabled_printing.specs.Viewed.{frame_look}
use Rattle.tabled_printing.proofs.frame.Frame.put_alike.Given as goal

abbrev pub invariant-loop-col : goal.invariant-loop-col
invariant-loop-col g l =
    let view : Look = frame_look g.D.Dimension.width_of g.D.Dimension.height_of l.self in
    record {
      put : g.S.Sink.puts (map (mark_at view) (places_before view (LineOf.Horizontal l.row) l.col)) l.initial.sink l.sink;
      next : l.col < l.self.shape.1 → mark_of l.crossing ≡ plain_mark l.self.cfg.now l.self.with_colors l.self.shape (Place.Cross l.row l.col);
    }
