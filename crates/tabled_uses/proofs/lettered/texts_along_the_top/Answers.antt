-- The definitions, computed.
use Rattle.std.proofs.Common.{refl}
use lib.Utf8.{encode}
use Rattle.unicode_width.proofs.Computing.{unicode_width}
use Rattle.tabled_places.specs.Event.{replay}
use Rattle.tabled_places.specs.Value.{value}
use Rattle.tabled_places.specs.Drawn.{drawn}
use Rattle.tabled_places.specs.State.{class_record_set, class_writes, classes}
use Rattle.tabled_places.specs.Lines.{horizontal_line_set, vertical_line_set}
use Rattle.tabled_configuration.specs.Configuration.{borders_set}
use Rattle.tabled_options.specs.TextStart.{text_start}
use Rattle.tabled_options.specs.LineText.{places_along, characters_written, colors_written, places_taken, text_events}
use Rattle.tabled_uses.specs.Examples.{text_of}
use Rattle.tabled_uses.specs.Lettered.{centered, centered_far, from_the_third, limited_to_three, too_long_at_the_right, too_long_at_the_left, right_and_moved}
use Rattle.tabled_uses.proofs.lettered.texts_along_the_top.Goals as goal

pub returns-clause-centered : goal.returns-clause-centered
unfolding centered text_of drawn value replay borders_set class_record_set class_writes classes horizontal_line_set vertical_line_set encode text_start places_along characters_written colors_written places_taken text_events unicode_width
returns-clause-centered c = refl

pub returns-clause-centered_far : goal.returns-clause-centered_far
unfolding centered_far text_of drawn value replay borders_set class_record_set class_writes classes horizontal_line_set vertical_line_set encode text_start places_along characters_written colors_written places_taken text_events unicode_width
returns-clause-centered_far c = refl

pub returns-clause-from_the_third : goal.returns-clause-from_the_third
unfolding from_the_third text_of drawn value replay borders_set class_record_set class_writes classes horizontal_line_set vertical_line_set encode text_start places_along characters_written colors_written places_taken text_events unicode_width
returns-clause-from_the_third c = refl

pub returns-clause-limited_to_three : goal.returns-clause-limited_to_three
unfolding limited_to_three text_of drawn value replay borders_set class_record_set class_writes classes horizontal_line_set vertical_line_set encode text_start places_along characters_written colors_written places_taken text_events unicode_width
returns-clause-limited_to_three c = refl

pub returns-clause-too_long_at_the_right : goal.returns-clause-too_long_at_the_right
unfolding too_long_at_the_right text_of drawn value replay borders_set class_record_set class_writes classes horizontal_line_set vertical_line_set encode text_start places_along characters_written colors_written places_taken text_events unicode_width
returns-clause-too_long_at_the_right c = refl

pub returns-clause-too_long_at_the_left : goal.returns-clause-too_long_at_the_left
unfolding too_long_at_the_left text_of drawn value replay borders_set class_record_set class_writes classes horizontal_line_set vertical_line_set encode text_start places_along characters_written colors_written places_taken text_events unicode_width
returns-clause-too_long_at_the_left c = refl

pub returns-clause-right_and_moved : goal.returns-clause-right_and_moved
unfolding right_and_moved text_of drawn value replay borders_set class_record_set class_writes classes horizontal_line_set vertical_line_set encode text_start places_along characters_written colors_written places_taken text_events unicode_width
returns-clause-right_and_moved c = refl
