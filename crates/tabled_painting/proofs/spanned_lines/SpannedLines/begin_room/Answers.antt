-- The room stands in its column.
use Rattle.std.proofs.Common.{ap, ◌∙◌}
use Rattle.tabled_painting.specs.RoomLines.{room_shown}
use Rattle.std.proofs.lemmas.List.{get_or-set_same}
use Rattle.tabled_painting.proofs.spanned_lines.SpannedLines.begin_room.Goals as goal

pub returns-then-begins_at-clause-begun : goal.returns-then-begins_at-clause-begun
returns-then-begins_at-clause-begun c = λ own none line.
    ap (λ room. room_shown room line) (get_or-set_same c.args.rooms.now c.args.place.1 _ none c.requires.col) ∙ c.room_of.ensures line
