-- One piece more, and the last crossing.
use Rattle.std.proofs.Common.{rules}
use Rattle.tabled_printing.specs.Picture.{Look}
use Rattle.tabled_printing.specs.Viewed.{walk_look}
use Rattle.tabled_printing.proofs.LineLemmas.{no_marks_before, marks_more, before_more_count}
use Rattle.tabled_printing.proofs.walk.Walk.put_all.Goals as goal

pub loop-n-init : goal.loop-n-init
loop-n-init g c =
    let laws = g.met.S.Sink c.lifetimes (search rules) in
    let view : Look = walk_look g.D.Dimension.width_of g.D.Dimension.height_of c.args.self.now in
    record { put = rw (no_marks_before view c.args.self.now.line) (laws.puts_none c.args.sink.now); raised = search rules }

pub loop-n-preserved : goal.loop-n-preserved
loop-n-preserved g c =
    let laws = g.met.S.Sink c.lifetimes (search rules) in
    let view : Look = walk_look g.D.Dimension.width_of g.D.Dimension.height_of c.args.self.now in
    let more = before_more_count view c.args.self.now.line c.loop-n.n in
    record {
      put = rw (marks_more view c.args.self.now.line c.loop-n.n) (laws.puts_both _ _ _ _ _ c.loop-n.invariant.put c.in_ok-put_piece.ensures.put);
      raised = search rules;
    }
