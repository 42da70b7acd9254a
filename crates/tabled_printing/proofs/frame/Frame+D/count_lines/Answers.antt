-- The marks of a line that is there are those of all its places.
use Rattle.std.proofs.Common.{length, ap, arith}
use Rattle.tabled_places.specs.declared.place.LineOf.{LineOf}
use Rattle.tabled_printing.specs.Picture.{Look}
use Rattle.tabled_printing.specs.Viewed.{frame_look}
use Rattle.tabled_printing.proofs.LineLemmas.{marks_are, vertical_there}
use Rattle.tabled_printing.proofs.frame.Frame+D.count_lines.Goals as goal

pub returns : goal.returns
returns g c =
    let frame = c.args.self.now in
    let view : Look = frame_look g.D.Dimension.width_of g.D.Dimension.height_of frame in
    let all = ap length (marks_are view (LineOf.Vertical 0) (vertical_there frame.shape frame.has_places)) in
    omega (arith, c.in_ok-put_all.ensures.put, all)
