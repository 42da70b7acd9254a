-- Without offsets a place shows what its edge shows.
use Rattle.std.proofs.Common.{◌∙◌, ap}
use Rattle.tabled_printing.specs.Picture.{Look}
use Rattle.tabled_printing.specs.Marks.{mark_of}
use Rattle.tabled_printing.specs.Beside.{plain_mark}
use Rattle.tabled_printing.specs.Viewed.{walk_look}
use Rattle.tabled_printing.proofs.AlikeLemmas.{edge_shows}
use Rattle.tabled_printing.proofs.MarkLemmas.{alike_edge}
use Rattle.tabled_printing.proofs.walk.Walk.put_run.Goals as goal

pub returns-clause-put : goal.returns-clause-put
returns-clause-put g c =
    let walk = c.args.self.now in
    let view : Look = walk_look g.D.Dimension.width_of g.D.Dimension.height_of walk in
    let mark = mark_of c.plain_mark-mark.result in
    rw (← alike_edge view walk.line c.args.n c.args.size mark c.requires.size
    (λ k within.
    c.plain_mark-mark.ensures.mark ∙ ap (plain_mark walk.cfg.now walk.with_colors walk.shape) c.edge_of-place.ensures
    ∙ edge_shows walk.cfg.now walk.with_colors walk.shape view.widths view.heights walk.line c.args.n k (c.requires.offsets.of c.args.n).characters (c.requires.offsets.of c.args.n).colors within))
    c.put.ensures
