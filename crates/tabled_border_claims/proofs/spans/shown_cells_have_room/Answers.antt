use Rattle.tabled_rooms.proofs.CellRooms.{wide_enough, high_enough}
use Rattle.tabled_border_claims.proofs.spans.shown_cells_have_room.Goals as goal

pub returns : goal.returns
returns c = record { wide = wide_enough; high = high_enough }
