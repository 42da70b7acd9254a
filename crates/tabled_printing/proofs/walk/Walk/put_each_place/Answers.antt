-- One place more, and a refusal on the way.
use Rattle.std.proofs.Common.{◌≡◌, ap, sym, ◌∙◌, rules}
use Rattle.tabled_printing.specs.Picture.{Look, edge_size, mark_at}
use Rattle.tabled_printing.specs.LinePieces.{edge_of}
use Rattle.tabled_printing.specs.Marks.{mark_of}
use Rattle.tabled_printing.specs.Viewed.{walk_look}
use Rattle.tabled_printing.proofs.LineLemmas.{edge_length}
use Rattle.tabled_printing.proofs.MarkLemmas.{place_more}
use Rattle.tabled_printing.proofs.walk.Walk.put_each_place.Goals as goal

pub loop-at-preserved : goal.loop-at-preserved
loop-at-preserved g c =
    let laws = g.met.S.Sink c.lifetimes (search rules) in
    let view : Look = walk_look g.D.Dimension.width_of g.D.Dimension.height_of c.args.self.now in
    let at = c.loop-at.at in
    let sized = c.requires ∙ sym (edge_length view.widths view.heights c.args.self.now.line c.args.n at) ∙ sym (ap (edge_size view.widths view.heights) c.edge_of-place.ensures) in
    let same : mark_of c.mark_seen-mark.result ≡ mark_at view (edge_of c.args.self.now.line c.args.n at) = c.mark_seen-mark.ensures.mark view.widths view.heights sized ∙ ap (mark_at view) c.edge_of-place.ensures in
    record {
      put = rw (place_more (mark_at view) (edge_of c.args.self.now.line c.args.n) at, ← same) (laws.puts_both _ _ _ _ _ c.loop-at.invariant.put c.in_ok-put.ensures);
      raised = search rules;
    }
