-- The definitions, computed.
use Rattle.std.proofs.Common.{refl}
use lib.Utf8.{encode}
use Rattle.unicode_width.proofs.Computing.{unicode_width}
use Rattle.tabled_places.specs.Event.{replay}
use Rattle.tabled_places.specs.Value.{value}
use Rattle.tabled_places.specs.Drawn.{drawn}
use Rattle.tabled_places.specs.State.{class_record_set, class_writes, classes}
use Rattle.tabled_places.specs.Lines.{horizontal_line_set, vertical_line_set}
use Rattle.tabled_configuration.specs.Configuration.{borders_set}
use Rattle.tabled_options.specs.TextStart.{text_start}
use Rattle.tabled_options.specs.LineText.{places_along, characters_written, colors_written, places_taken, text_events}
use Rattle.tabled_uses.specs.Examples.{text_of}
use Rattle.tabled_uses.specs.Lettered.{on_the_closing_line, past_the_closing_line, both_sides, at_the_bottom}
use Rattle.tabled_uses.proofs.lettered.texts_on_other_lines.Goals as goal

pub returns-clause-on_the_closing_line : goal.returns-clause-on_the_closing_line
unfolding on_the_closing_line text_of drawn value replay borders_set class_record_set class_writes classes horizontal_line_set vertical_line_set encode text_start places_along characters_written colors_written places_taken text_events unicode_width
returns-clause-on_the_closing_line c = refl

pub returns-clause-past_the_closing_line : goal.returns-clause-past_the_closing_line
unfolding past_the_closing_line text_of drawn value replay borders_set class_record_set class_writes classes horizontal_line_set vertical_line_set encode text_start places_along characters_written colors_written places_taken text_events unicode_width
returns-clause-past_the_closing_line c = refl

pub returns-clause-both_sides : goal.returns-clause-both_sides
unfolding both_sides text_of drawn value replay borders_set class_record_set class_writes classes horizontal_line_set vertical_line_set encode text_start places_along characters_written colors_written places_taken text_events unicode_width
returns-clause-both_sides c = refl

pub returns-clause-at_the_bottom : goal.returns-clause-at_the_bottom
unfolding at_the_bottom text_of drawn value replay borders_set class_record_set class_writes classes horizontal_line_set vertical_line_set encode text_start places_along characters_written colors_written places_taken text_events unicode_width
returns-clause-at_the_bottom c = refl
