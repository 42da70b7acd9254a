-- A room that begins at the column, and none.
use Rattle.std.proofs.Common.{sym, ap, subst}
use Rattle.tabled_painting.specs.InColor.{Paints}
use Rattle.tabled_painting.specs.RoomLines.{begun_piece}
use Rattle.tabled_painting.specs.Viewed.{viewed}
use Rattle.tabled_painting.proofs.FrameLemmas.{side_is}
use Rattle.tabled_painting.proofs.PainterLemmas.{paints_both, paints_same}
use Rattle.tabled_painting.proofs.table_lines.TableLines.paint_begun.Goals as goal

pub returns-clause-painted : goal.returns-clause-painted
returns-clause-painted g c =
    let gains = g.O.Output.gains in
    let view = viewed c.args.self.now.frame in
    paints_same gains _ _ _ _
    (ap (λ begins. begun_piece view c.args.place.0 c.args.place.1 c.args.line c.args.place.2 begins c.args.room.now) (sym c.if-not-begins.false))
    (paints_both gains g.met.O.Output.gains_both _ _ c.args.painter.now c.push_side.new.self c.paint_room.new.painter
    (subst (λ line. Paints gains line c.args.painter.now c.push_side.new.self) (side_is view c.args.place.0 c.args.place.1 c.args.place.2 _ c.side.ensures) c.in_ok-push_side.ensures) c.in_ok-paint_room.ensures.painted)
