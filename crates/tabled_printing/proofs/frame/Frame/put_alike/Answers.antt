-- One piece more, and the last crossing.
use Rattle.std.proofs.Common.{◌≡◌, ◌+◌, ◌++◌, map, ◌∙◌, arith, rules}
use Rattle.std.proofs.lemmas.Grind.{common_steps}
use Rattle.tabled_places.specs.declared.place.LineOf.{LineOf}
use Rattle.tabled_printing.specs.LinePieces.{places_before}
use Rattle.tabled_printing.specs.Marks.{mark_of}
use Rattle.tabled_printing.specs.Picture.{Look, mark_at}
use Rattle.tabled_printing.specs.Viewed.{frame_look}
use Rattle.tabled_printing.proofs.AlikeLemmas.{crossing_shows, edge_as_first, crossing_as_second, piece_alike, last_alike}
use Rattle.tabled_printing.proofs.LineLemmas.{no_marks_before, marks_more, marks_closed, marks_are, horizontal_there}
use Rattle.tabled_printing.proofs.frame.Frame.put_alike.Goals as goal

pub loop-col-init : goal.loop-col-init
loop-col-init g c =
    let laws = g.met.S.Sink c.lifetimes (search rules) in
    let view : Look = frame_look g.D.Dimension.width_of g.D.Dimension.height_of c.args.self.now in
    record {
      put = rw (no_marks_before view (LineOf.Horizontal c.args.row)) (laws.puts_none c.args.sink.now);
      next = λ within. c.looks-looks.ensures.first;
    }

pub loop-col-preserved : goal.loop-col-preserved
loop-col-preserved g c =
    let laws = g.met.S.Sink c.lifetimes (search rules) in
    let frame = c.args.self.now in
    let view : Look = frame_look g.D.Dimension.width_of g.D.Dimension.height_of frame in
    let line = LineOf.Horizontal c.args.row in
    let n = c.loop-col.col in
    let plain = frame.plain_columns.0 c.requires.plain in
    let alike = piece_alike view c.args.row n (mark_of c.loop-col.crossing) (mark_of c.looks-looks.result.edge)
    (c.loop-col.invariant.next (omega arith) ∙ crossing_shows frame.cfg.now frame.with_colors frame.shape view.widths view.heights line n)
    (λ k within. c.looks-looks.ensures.edge ∙ edge_as_first frame.cfg.now frame.with_colors frame.shape c.args.row c.requires.alike view.widths view.heights n k (omega arith) within) in
    record {
      put = rw (marks_more view line n, alike) (laws.puts_both _ _ _ _ _ c.loop-col.invariant.put c.in_ok-put_piece.ensures);
      next = λ within.
          c.looks-looks.ensures.inner
          ∙ crossing_as_second frame.cfg.now frame.with_colors frame.shape c.args.row c.requires.alike plain (n + 1) (omega arith) within;
    }

pub returns-clause-put : goal.returns-clause-put
returns-clause-put g c =
    let laws = g.met.S.Sink c.lifetimes (search rules) in
    let frame = c.args.self.now in
    let view : Look = frame_look g.D.Dimension.width_of g.D.Dimension.height_of frame in
    let line = LineOf.Horizontal c.args.row in
    let last : frame.shape.1 ≡ c.loop-col.col = omega arith in
    let crossing = last_alike view c.args.row frame.shape.1 (mark_of c.looks-looks.result.last) (c.looks-looks.ensures.last ∙ crossing_shows frame.cfg.now frame.with_colors frame.shape view.widths view.heights line frame.shape.1) in
    rw (marks_are view line (horizontal_there frame.shape c.args.row frame.has_places c.requires.row) ∙ marks_closed view line ∙ (λ i. map (mark_at view) (places_before view line (last i)) ++ crossing i))
    (grind (arith, common_steps, laws.puts_both, laws.leaves_after))
