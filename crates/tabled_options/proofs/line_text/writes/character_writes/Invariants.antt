-- What is written so far.
use Rattle.std.proofs.Common.{◌≡◌, take}
use Rattle.tabled_places.specs.Writes.{writes_made}
use Rattle.tabled_options.specs.LineText.{characters_written}
use Rattle.tabled_options.specs.Laying.{looked}
use Rattle.tabled_options.proofs.line_text.writes.character_writes.Given as goal

abbrev pub invariant-loop-place : goal.invariant-loop-place
invariant-loop-place g l =
    writes_made l.writes.items ≡ characters_written (looked g.D.Dimension.width_of g.D.Dimension.height_of l.line).shown (take l.place-index l.taken)
