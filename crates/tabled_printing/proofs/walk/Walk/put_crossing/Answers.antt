-- A crossing that is there shows what the configuration has for it, which has no offsets.
use Rattle.std.proofs.Common.{◌≡◌, true, [], ◌∷◌, ap, sym, ◌∙◌}
use Rattle.std.proofs.lemmas.Bool.{cond-true}
use Rattle.tabled_configuration.specs.Configuration.{all_writes}
use Rattle.tabled_printing.specs.Picture.{Look, mark_at}
use Rattle.tabled_printing.specs.LinePieces.{crossed, crossing_of}
use Rattle.tabled_printing.specs.Marks.{mark_of}
use Rattle.tabled_printing.specs.Beside.{plain_mark}
use Rattle.tabled_printing.specs.Viewed.{walk_look}
use Rattle.tabled_printing.proofs.AlikeLemmas.{crossing_shows}
use Rattle.tabled_printing.proofs.LineLemmas.{crossed_is}
use Rattle.tabled_printing.proofs.walk.Walk.put_crossing.Goals as goal

pub returns-clause-put : goal.returns-clause-put
returns-clause-put g c =
    let walk = c.args.self.now in
    let view : Look = walk_look g.D.Dimension.width_of g.D.Dimension.height_of walk in
    let mark = mark_of c.plain_mark-mark.result in
    let drawn : crossed view.horizontal view.vertical walk.line c.args.n ≡ true =
    sym (crossed_is (all_writes walk.cfg.now) walk.shape view.widths view.heights walk.line c.args.n) ∙ sym c.is_crossed.ensures.value ∙ c.if-not-is_crossed.false in
    let same : mark ≡ mark_at view (crossing_of walk.line c.args.n) =
    c.plain_mark-mark.ensures.mark ∙ ap (plain_mark walk.cfg.now walk.with_colors walk.shape) c.crossing_of-place.ensures
    ∙ crossing_shows walk.cfg.now walk.with_colors walk.shape view.widths view.heights walk.line c.args.n in
    rw (cond-true (crossed view.horizontal view.vertical walk.line c.args.n) (crossing_of walk.line c.args.n ∷ []) [] drawn, ← same) c.put.ensures
