-- The cells so far.
use Rattle.std.proofs.Common.{◌≡◌, ◌<◌, ℕ, [], Option, length, map, slice_index_or}
use Rattle.tabled_painting.specs.RoomLines.{room_shown}
use Rattle.tabled_painting.specs.Rows.{row_cell}
use Rattle.tabled_painting.specs.declared.room.Room.{Room}
use Rattle.tabled_painting.proofs.table_lines.TableLines.begin_cells.Given as goal

abbrev pub invariant-loop-col : goal.invariant-loop-col
invariant-loop-col g l = record {
  count : length l.rooms ≡ length l.initial.rooms;
  cells : (c line : ℕ) (none : Option Room) → c < l.col → room_shown (slice_index_or l.rooms c none) line ≡ row_cell l.self l.row c (slice_index_or (map g.T.AsStr.text l.texts) c []) line;
}
