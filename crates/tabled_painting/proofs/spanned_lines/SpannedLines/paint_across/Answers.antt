-- A piece more, and the last crossing.
use Rattle.std.proofs.Common.{◌≡◌, ℕ, ◌-◌, ◌<◌, ◌==◌, ◌++◌, true, false, length, slice_index_or, ap, subst, ◌∙◌, arith}
use Rattle.std.proofs.lemmas.List.{get_or_default}
use Rattle.std.specs.List.{flat_map}
use Rattle.tabled_object.specs.Entities.{below}
use Rattle.tabled_rooms.specs.Hosts.{host}
use Rattle.tabled_painting.specs.InColor.{Paints}
use Rattle.tabled_painting.specs.Painted.{Painted}
use Rattle.tabled_painting.specs.PaintedSpans.{crossed_piece, lines_above, painted_crossing}
use Rattle.tabled_painting.specs.RoomLines.{IsRoomAt, columns_of, rows_of, nobody}
use Rattle.tabled_painting.specs.Viewed.{viewed}
use Rattle.tabled_painting.proofs.PainterLemmas.{parts_more, paints_both}
use Rattle.tabled_painting.proofs.SpannedLemmas.{crossed_is, same_put, same_then, shown_in}
use Rattle.tabled_painting.proofs.spanned_lines.SpannedLines.paint_across.Goals as goal

pub loop-col-preserved : goal.loop-col-preserved
loop-col-preserved g c =
    let lines = c.args.self.now.lines.now in
    let view = viewed lines.frame in
    let columns = columns_of lines in
    let rows = rows_of lines in
    let n = c.loop-col.col in
    let line = c.saturating_sub-line.result in
    let in_hosts : n < length c.args.hosts.now = omega (arith, c.requires.hosts, c.loop-col-test.true) in
    let in_rooms : n < length c.loop-col.rooms = omega (arith, c.requires.rooms, c.loop-col-test.true, c.loop-col.invariant.same.count) in
    let there : line ≡ lines_above view columns rows c.args.row - 1 = c.saturating_sub-line.ensures ∙ ap (λ k. k - 1) (c.requires.spans.are_firsts c.args.row (omega (arith, c.requires.row))) in
    let room = slice_index_or c.loop-col.rooms n c.index-rooms-col.result in
    let read = get_or_default c.loop-col.rooms n c.index-rooms-col.result room in_rooms in
    record {
      same = same_then c.args.rooms.now c.loop-col.rooms _ c.loop-col.invariant.same (same_put c.loop-col.rooms n room c.paint_crossed.new.room in_rooms read c.in_ok-paint_crossed.ensures.same);
      painted = λ cells are.
          let own : ((host columns rows c.args.row n).0 == c.args.row) ≡ false → ((host columns rows c.args.row n).1 == n) ≡ true → IsRoomAt view columns rows cells c.args.row n room =
          λ above first at. shown_in c.args.rooms.now c.loop-col.rooms n at room room in_rooms read c.loop-col.invariant.same ∙ are n room (omega (arith, in_rooms, c.loop-col.invariant.same.count)) above first at in
          parts_more g.O.Output.gains g.met.O.Output.gains_both (crossed_piece view columns rows cells c.args.row) n c.args.painter.now c.loop-col.painter c.paint_crossed.new.painter (c.loop-col.invariant.painted cells are)
          (subst (λ line. Paints g.O.Output.gains line c.loop-col.painter c.paint_crossed.new.painter)
          (crossed_is view columns rows cells lines.frame.shape c.args.row n line (slice_index_or c.args.hosts.now n nobody) room (c.requires.are n nobody in_hosts) there own)
          c.in_ok-paint_crossed.ensures.painted);
    }

pub returns-clause-painted : goal.returns-clause-painted
returns-clause-painted g c = λ cells are.
    let lines = c.args.self.now.lines.now in
    let view = viewed lines.frame in
    let part : ℕ → Painted = crossed_piece view (columns_of lines) (rows_of lines) cells c.args.row in
    let all : c.loop-col.col ≡ view.shape.1 = omega (arith, c.loop-col-test.false, c.loop-col.auto.col-end) in
    subst (λ n. Paints g.O.Output.gains (flat_map part (below n) ++ painted_crossing view c.args.row view.shape.1) c.args.painter.now c.put_line_crossing.new.sink) all
    (paints_both g.O.Output.gains g.met.O.Output.gains_both (flat_map part (below c.loop-col.col)) (painted_crossing view c.args.row view.shape.1) c.args.painter.now c.loop-col.painter c.put_line_crossing.new.sink
    (c.loop-col.invariant.painted cells are) c.in_ok-put_line_crossing.ensures.put)
