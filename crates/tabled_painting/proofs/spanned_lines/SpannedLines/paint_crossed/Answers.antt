-- The crossing and the edge, a room that reaches over the line, or nothing more of one.
use Rattle.tabled_painting.specs.Viewed.{viewed}
use Rattle.tabled_painting.proofs.PainterLemmas.{paints_both, paints_same}
use Rattle.tabled_painting.proofs.SpannedLemmas.{crossed_room}
use Rattle.tabled_painting.proofs.spanned_lines.SpannedLines.paint_crossed.Goals as goal

pub returns-clause-painted : goal.returns-clause-painted
returns-clause-painted g c =
    paints_same g.O.Output.gains _ _ _ _
    (crossed_room (viewed c.args.self.now.lines.now.frame) c.args.place.0 c.args.line c.args.place.1 c.args.host c.args.room.now c.if-host-row.false c.if-host-col.false)
    (paints_both g.O.Output.gains g.met.O.Output.gains_both _ _ c.args.painter.now c.put_line_crossing.new.sink c.paint_room.new.painter c.in_ok-put_line_crossing.ensures.put c.in_ok-paint_room.ensures.painted)
