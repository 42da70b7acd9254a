-- The definitions, computed.
use Rattle.std.proofs.Common.{refl}
use lib.Utf8.{encode}
use Rattle.tabled_object.specs.Entities.{rectangle}
use Rattle.tabled_places.specs.Event.{replay}
use Rattle.tabled_places.specs.Value.{value}
use Rattle.tabled_places.specs.Drawn.{drawn}
use Rattle.tabled_places.specs.State.{class_record_set, class_writes, classes}
use Rattle.tabled_places.specs.Lines.{horizontal_line_set, vertical_line_set}
use Rattle.tabled_configuration.specs.Configuration.{borders_set}
use Rattle.tabled_options.specs.LineChar.{line_char_events}
use Rattle.tabled_uses.specs.Examples.{text_of}
use Rattle.tabled_uses.specs.Lettered.{marks, marks_on_closing_lines}
use Rattle.tabled_uses.proofs.lettered.marks_on_edges.Goals as goal

pub returns-clause-marks : goal.returns-clause-marks
unfolding marks text_of drawn value replay borders_set class_record_set class_writes classes horizontal_line_set vertical_line_set encode rectangle line_char_events
returns-clause-marks c = refl

pub returns-clause-marks_on_closing_lines : goal.returns-clause-marks_on_closing_lines
unfolding marks_on_closing_lines text_of drawn value replay borders_set class_record_set class_writes classes horizontal_line_set vertical_line_set encode rectangle line_char_events
returns-clause-marks_on_closing_lines c = refl
