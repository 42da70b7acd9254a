-- The definitions, computed.
use Rattle.std.proofs.Common.{refl}
use lib.Utf8.{encode}
use Rattle.unicode_width.proofs.Computing.{unicode_width}
use Rattle.tabled_places.specs.Event.{replay}
use Rattle.tabled_places.specs.Value.{value}
use Rattle.tabled_places.specs.Drawn.{drawn}
use Rattle.tabled_places.specs.State.{class_record_set, class_writes, classes}
use Rattle.tabled_places.specs.Lines.{horizontal_line_set, vertical_line_set}
use Rattle.tabled_configuration.specs.Configuration.{borders_set}
use Rattle.tabled_options.specs.TextStart.{text_start}
use Rattle.tabled_options.specs.LineText.{places_along, characters_written, colors_written, places_taken, text_events}
use Rattle.tabled_uses.specs.Examples.{text_of}
use Rattle.tabled_uses.specs.Lettered.{over_nothing, colors_over_nothing, over_a_crossing, over_it_again, on_a_drawn_line, on_a_line_not_drawn, colors_on}
use Rattle.tabled_uses.proofs.lettered.texts_over_crossings.Goals as goal

pub returns-clause-over_nothing : goal.returns-clause-over_nothing
unfolding over_nothing text_of drawn value replay borders_set class_record_set class_writes classes horizontal_line_set vertical_line_set encode text_start places_along characters_written colors_written places_taken text_events unicode_width
returns-clause-over_nothing c = refl

pub returns-clause-colors_over_nothing : goal.returns-clause-colors_over_nothing
unfolding colors_over_nothing colors_on drawn value replay borders_set class_record_set class_writes classes horizontal_line_set vertical_line_set encode text_start places_along characters_written colors_written places_taken text_events unicode_width
returns-clause-colors_over_nothing c = refl

pub returns-clause-over_a_crossing : goal.returns-clause-over_a_crossing
unfolding over_a_crossing text_of drawn value replay borders_set class_record_set class_writes classes horizontal_line_set vertical_line_set encode text_start places_along characters_written colors_written places_taken text_events unicode_width
returns-clause-over_a_crossing c = refl

pub returns-clause-over_it_again : goal.returns-clause-over_it_again
unfolding over_it_again over_a_crossing text_of drawn value replay borders_set class_record_set class_writes classes horizontal_line_set vertical_line_set encode text_start places_along characters_written colors_written places_taken text_events unicode_width
returns-clause-over_it_again c = refl

pub returns-clause-on_a_drawn_line : goal.returns-clause-on_a_drawn_line
unfolding on_a_drawn_line text_of drawn value replay borders_set class_record_set class_writes classes horizontal_line_set vertical_line_set encode text_start places_along characters_written colors_written places_taken text_events unicode_width
returns-clause-on_a_drawn_line c = refl

pub returns-clause-on_a_line_not_drawn : goal.returns-clause-on_a_line_not_drawn
unfolding on_a_line_not_drawn text_of drawn value replay borders_set class_record_set class_writes classes horizontal_line_set vertical_line_set encode text_start places_along characters_written colors_written places_taken text_events unicode_width
returns-clause-on_a_line_not_drawn c = refl
