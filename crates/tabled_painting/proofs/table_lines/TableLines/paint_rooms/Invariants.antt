-- The lines so far.
use Rattle.std.proofs.Common.{◌≡◌, ◌+◌, None, Option, map, min, option_copied}
use Rattle.tabled_object.specs.Entities.{below}
use Rattle.tabled_painting.specs.Pages.{PaintsLines, most}
use Rattle.tabled_painting.specs.RoomLines.{ShowTheSame, rooms_between}
use Rattle.tabled_painting.specs.Viewed.{viewed}
use Rattle.tabled_painting.specs.declared.room.Room.{Room}
use Rattle.tabled_painting.proofs.table_lines.TableLines.paint_rooms.Given as goal

abbrev pub invariant-loop-at : goal.invariant-loop-at
invariant-loop-at g l = record {
  same : ShowTheSame l.initial.rooms l.rooms;
  ended : option_copied l.page.painter.color ≡ None;
  painted : (none : Option Room) → PaintsLines g.O.Output.gains (map (λ k. rooms_between (viewed l.self.frame) l.row k (min (l.first + k) most) l.hosts l.initial.rooms none) (below l.at)) l.initial.page l.page;
}
