-- The rooms of the columns so far.
use Rattle.std.proofs.Common.{◌≡◌, [], length, map, slice_index_or}
use Rattle.tabled_width.specs.Texts.{Table}
use Rattle.tabled_painting.specs.RoomLines.{AreBegun, AreOpen, columns_of, room_cells, rows_of}
use Rattle.tabled_painting.specs.Viewed.{viewed}
use Rattle.tabled_painting.proofs.spanned_lines.SpannedLines.begin_rooms.Given as goal

abbrev pub invariant-loop-col : goal.invariant-loop-col
invariant-loop-col g l =
    let lines = l.self.lines.now in
    record {
      count : length l.rooms ≡ length l.initial.rooms;
      begun : (table : Table) → slice_index_or table l.row [] ≡ map g.T.AsStr.text l.texts
          → AreOpen (viewed lines.frame) (columns_of lines) (rows_of lines) (room_cells lines table) l.row l.initial.rooms
          → AreBegun (viewed lines.frame) (columns_of lines) (rows_of lines) (room_cells lines table) l.row l.col l.rooms;
    }
