-- What is written so far.
use Rattle.std.proofs.Common.{◌≡◌, Some, take}
use Rattle.tabled_places.specs.Writes.{writes_made}
use Rattle.tabled_color.specs.Shade.{texts_of}
use Rattle.tabled_options.specs.LineText.{colors_written}
use Rattle.tabled_options.proofs.line_text.writes.color_writes.Given as goal

abbrev pub invariant-loop-place : goal.invariant-loop-place
invariant-loop-place l = writes_made l.writes.items ≡ colors_written (Some (texts_of l.color)) (take l.place-index l.taken)
