-- The rows so far, and what is shown in the last of them.
use Rattle.std.proofs.Common.{◌≡◌, ◌<◌, ◌++◌, None, length, option_copied}
use Rattle.std.specs.List.{flat_map}
use Rattle.tabled_object.specs.Entities.{below}
use Rattle.tabled_rooms.specs.Holding.{AreAbove}
use Rattle.tabled_painting.specs.Pages.{PaintsLines}
use Rattle.tabled_painting.specs.PaintedSpans.{spanned_if_drawn, spanned_row}
use Rattle.tabled_painting.specs.RoomLines.{AreOpen, columns_of, room_cells, rows_of}
use Rattle.tabled_cells.specs.TextsBy.{texts_by}
use Rattle.tabled_painting.specs.Viewed.{viewed}
use Rattle.tabled_painting.proofs.spanned_lines.SpannedLines.paint_rows.Given as goal

abbrev pub invariant-loop-row : goal.invariant-loop-row
invariant-loop-row g l =
    let lines = l.self.lines.now in
    let view = viewed lines.frame in
    let cells = room_cells lines (texts_by g.T.AsStr.text l.rows) in
    record {
      ended : option_copied l.page.painter.color ≡ None;
      colors : l.page.painter.with_colors ≡ lines.frame.with_colors;
      hosts_count : length l.hosts ≡ length l.initial.hosts;
      wides_count : length l.wides ≡ length l.initial.hosts;
      rooms_count : length l.rooms ≡ length l.initial.rooms;
      above : AreAbove (columns_of lines) (rows_of lines) lines.frame.shape l.row l.hosts;
      opened : l.row < lines.frame.shape.0 → AreOpen view (columns_of lines) (rows_of lines) cells l.row l.rooms;
      painted : PaintsLines g.O.Output.gains (flat_map (λ r. spanned_if_drawn view (columns_of lines) (rows_of lines) cells r ++ spanned_row view (columns_of lines) (rows_of lines) cells r) (below l.row)) l.initial.page l.page;
    }
