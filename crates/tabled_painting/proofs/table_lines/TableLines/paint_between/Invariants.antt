-- The pieces so far.
use Rattle.std.proofs.Common.{Option, slice_index_or}
use Rattle.std.specs.List.{flat_map}
use Rattle.tabled_object.specs.Entities.{below}
use Rattle.tabled_painting.specs.InColor.{Paints}
use Rattle.tabled_painting.specs.RoomLines.{ShowTheSame, begins, begun_piece}
use Rattle.tabled_painting.specs.Viewed.{viewed}
use Rattle.tabled_painting.specs.declared.room.Room.{Room}
use Rattle.tabled_painting.proofs.table_lines.TableLines.paint_between.Given as goal

abbrev pub invariant-loop-col : goal.invariant-loop-col
invariant-loop-col g l = record {
  same : ShowTheSame l.initial.rooms l.rooms;
  painted : (none : Option Room)
      → Paints g.O.Output.gains (flat_map (λ c. begun_piece (viewed l.self.frame) l.fn.place.0 l.fn.place.1 l.line c (begins l.hosts c) (slice_index_or l.initial.rooms c none)) (below l.col)) l.initial.painter l.painter;
}
