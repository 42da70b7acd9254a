-- The marks of a line that is there are those of all its places.
use Rattle.std.proofs.Common.{rules}
use Rattle.tabled_places.specs.declared.place.LineOf.{LineOf}
use Rattle.tabled_printing.specs.Picture.{Look}
use Rattle.tabled_printing.specs.Viewed.{frame_look}
use Rattle.tabled_printing.proofs.LineLemmas.{marks_are, marks_count, horizontal_there}
use Rattle.tabled_printing.proofs.frame.Frame.put_line.Goals as goal

pub returns-clause-put : goal.returns-clause-put
returns-clause-put g c =
    let frame = c.args.self.now in
    let view : Look = frame_look g.D.Dimension.width_of g.D.Dimension.height_of frame in
    let line = LineOf.Horizontal c.args.row in
    rw (marks_are view line (horizontal_there frame.shape c.args.row frame.has_places c.requires)) c.put_all.ensures.put

pub returns-clause-probes : goal.returns-clause-probes
returns-clause-probes g c =
    let frame = c.args.self.now in
    let view : Look = frame_look g.D.Dimension.width_of g.D.Dimension.height_of frame in
    let line = LineOf.Horizontal c.args.row in
    let counted = marks_count view line (horizontal_there frame.shape c.args.row frame.has_places c.requires) in
    search rules
