use Rattle.std.proofs.Common.{refl}
use lib.Utf8.{encode}
use Rattle.tabled_places.specs.Event.{replay}
use Rattle.tabled_places.specs.Value.{value}
use Rattle.tabled_places.specs.Drawn.{drawn}
use Rattle.tabled_places.specs.State.{class_record_set, class_writes, classes}
use Rattle.tabled_places.specs.Lines.{horizontal_line_set, vertical_line_set}
use Rattle.tabled_configuration.specs.Configuration.{borders_set}
use Rattle.tabled_uses.specs.Examples.{text_of, markdown_offsets, vertical_line, horizontal_line, line_replaced, inner_intersection, closing_line}
use Rattle.tabled_uses.proofs.examples.lines_of_their_own.Goals as goal

pub returns-clause-markdown_offsets : goal.returns-clause-markdown_offsets
unfolding markdown_offsets text_of drawn value replay borders_set class_record_set class_writes classes horizontal_line_set vertical_line_set encode
returns-clause-markdown_offsets c = refl

pub returns-clause-vertical_line : goal.returns-clause-vertical_line
unfolding vertical_line text_of drawn value replay borders_set class_record_set class_writes classes horizontal_line_set vertical_line_set encode
returns-clause-vertical_line c = refl

pub returns-clause-horizontal_line : goal.returns-clause-horizontal_line
unfolding horizontal_line text_of drawn value replay borders_set class_record_set class_writes classes horizontal_line_set vertical_line_set encode
returns-clause-horizontal_line c = refl

pub returns-clause-line_replaced : goal.returns-clause-line_replaced
unfolding line_replaced text_of drawn value replay borders_set class_record_set class_writes classes horizontal_line_set vertical_line_set encode
returns-clause-line_replaced c = refl

pub returns-clause-inner_intersection : goal.returns-clause-inner_intersection
unfolding inner_intersection text_of drawn value replay borders_set class_record_set class_writes classes horizontal_line_set vertical_line_set encode
returns-clause-inner_intersection c = refl

pub returns-clause-closing_line : goal.returns-clause-closing_line
unfolding closing_line text_of drawn value replay borders_set class_record_set class_writes classes horizontal_line_set vertical_line_set encode
returns-clause-closing_line c = refl
