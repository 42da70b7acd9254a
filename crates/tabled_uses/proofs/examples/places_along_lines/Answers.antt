use Rattle.std.proofs.Common.{refl}
use lib.Utf8.{encode}
use Rattle.tabled_places.specs.Event.{replay}
use Rattle.tabled_places.specs.Value.{value}
use Rattle.tabled_places.specs.Drawn.{drawn}
use Rattle.tabled_places.specs.State.{class_record_set, class_writes, classes}
use Rattle.tabled_configuration.specs.Configuration.{borders_set}
use Rattle.tabled_uses.specs.Examples.{text_of, places_of, two_heights, no_rows}
use Rattle.tabled_uses.proofs.examples.places_along_lines.Goals as goal

pub returns-clause-two_heights : goal.returns-clause-two_heights
unfolding two_heights text_of drawn value replay borders_set class_record_set class_writes classes encode
returns-clause-two_heights c = refl

pub returns-clause-drawn_line : goal.returns-clause-drawn_line
unfolding two_heights places_of drawn value replay borders_set class_record_set class_writes classes
returns-clause-drawn_line c = refl

pub returns-clause-past_the_closing_line : goal.returns-clause-past_the_closing_line
unfolding two_heights places_of drawn value replay borders_set class_record_set class_writes classes
returns-clause-past_the_closing_line c = refl

pub returns-clause-below_the_closing_line : goal.returns-clause-below_the_closing_line
unfolding two_heights places_of drawn value replay borders_set class_record_set class_writes classes
returns-clause-below_the_closing_line c = refl

pub returns-clause-no_rows : goal.returns-clause-no_rows
unfolding no_rows places_of drawn value replay borders_set class_record_set class_writes classes
returns-clause-no_rows c = refl
