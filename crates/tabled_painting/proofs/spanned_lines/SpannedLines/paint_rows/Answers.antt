-- A row more: the line above it and its own lines.
use Rattle.std.proofs.Common.{[], length, refl, ap, sym, ◌∙◌, arith, map}
use Rattle.std.proofs.lemmas.List.{length-map}
use Rattle.tabled_rooms.proofs.HostLemmas.{hosts_above}
use Rattle.tabled_painting.specs.PaintedSpans.{spanned_if_drawn, spanned_row}
use Rattle.tabled_painting.specs.RoomLines.{columns_of, room_cells, rows_of}
use Rattle.tabled_cells.specs.TextsBy.{texts_by}
use Rattle.tabled_painting.specs.Viewed.{viewed}
use Rattle.tabled_painting.proofs.FrameLemmas.{row_texts}
use Rattle.tabled_painting.proofs.PageLemmas.{row_more, no_lines}
use Rattle.tabled_painting.proofs.SpannedLemmas.{none_open, open_same}
use Rattle.tabled_painting.proofs.spanned_lines.SpannedLines.paint_rows.Goals as goal

pub loop-row-init : goal.loop-row-init
loop-row-init g c =
    let lines = c.args.self.now.lines.now in
    record {
      ended = c.requires.ended;
      colors = c.requires.colors;
      hosts_count = refl;
      wides_count = c.requires.wides;
      rooms_count = refl;
      above = c.requires.above;
      opened = λ some. none_open (viewed lines.frame) (columns_of lines) (rows_of lines) (room_cells lines (texts_by g.T.AsStr.text c.args.rows.now)) c.args.rooms.now;
      painted = no_lines g.O.Output.gains g.met.O.Output.gains_none c.args.page.now c.requires.ended;
    }

pub paint_shown-requires-clause-texts : goal.paint_shown-requires-clause-texts
paint_shown-requires-clause-texts g c =
    let rows = c.args.rows.now in
    let there = row_texts g.T.AsStr.text rows c.loop-row.row c.index-rows-row.result c.deref.result.now c.loop-row-test.true c.index-rows-row.is c.deref.ensures.value in
    sym (length-map c.deref.result.now g.T.AsStr.text) ∙ ap length there
    ∙ c.requires.cols c.loop-row.row [] (omega (arith, c.loop-row-test.true, length-map rows (λ row. map g.T.AsStr.text row.items)))

pub paint_shown-requires-clause-ended : goal.paint_shown-requires-clause-ended
paint_shown-requires-clause-ended g c =
    let lines = c.args.self.now.lines.now in
    (c.in_ok-paint_line.ensures.painted (room_cells lines (texts_by g.T.AsStr.text c.args.rows.now)) (c.loop-row.invariant.opened (omega (arith, c.loop-row-test.true, c.requires.rows)))).whole.ended

pub paint_shown-requires-clause-colors : goal.paint_shown-requires-clause-colors
paint_shown-requires-clause-colors g c =
    let lines = c.args.self.now.lines.now in
    (c.in_ok-paint_line.ensures.painted (room_cells lines (texts_by g.T.AsStr.text c.args.rows.now)) (c.loop-row.invariant.opened (omega (arith, c.loop-row-test.true, c.requires.rows)))).whole.same_colors ∙ c.loop-row.invariant.colors

pub loop-row-preserved : goal.loop-row-preserved
loop-row-preserved g c =
    let lines = c.args.self.now.lines.now in
    let view = viewed lines.frame in
    let rows = c.args.rows.now in
    let r = c.loop-row.row in
    let cells = room_cells lines (texts_by g.T.AsStr.text rows) in
    let there = row_texts g.T.AsStr.text rows r c.index-rows-row.result c.deref.result.now c.loop-row-test.true c.index-rows-row.is c.deref.ensures.value in
    let opened = c.loop-row.invariant.opened (omega (arith, c.loop-row-test.true, c.requires.rows)) in
    let lines_above = c.in_ok-paint_line.ensures.painted cells opened in
    let still = open_same view (columns_of lines) (rows_of lines) cells r c.loop-row.rooms c.paint_line.new.rooms c.in_ok-paint_line.ensures.same opened in
    let own = c.in_ok-paint_shown.ensures.painted (texts_by g.T.AsStr.text rows) (sym there) still in
    record {
      ended = own.whole.ended;
      colors = own.whole.same_colors ∙ lines_above.whole.same_colors ∙ c.loop-row.invariant.colors;
      hosts_count = omega (arith, c.loop-row.invariant.hosts_count);
      wides_count = c.in_ok-paint_shown.ensures.wides_count ∙ c.loop-row.invariant.wides_count;
      rooms_count = c.in_ok-paint_shown.ensures.rooms_count ∙ c.in_ok-paint_line.ensures.same.count ∙ c.loop-row.invariant.rooms_count;
      above = hosts_above (columns_of lines) (rows_of lines) lines.frame.shape r c.next_hosts.new.hosts c.next_hosts.ensures.hosts;
      opened = c.in_ok-paint_shown.ensures.opened (texts_by g.T.AsStr.text rows) (sym there) still;
      painted =
          row_more g.O.Output.gains g.met.O.Output.gains_both (spanned_if_drawn view (columns_of lines) (rows_of lines) cells) (spanned_row view (columns_of lines) (rows_of lines) cells) r _ _ _ _ _ refl
          c.loop-row.invariant.painted lines_above own;
    }
