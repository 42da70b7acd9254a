use Rattle.std.proofs.Common.{refl}
use lib.Utf8.{encode}
use Rattle.tabled_places.specs.Event.{replay}
use Rattle.tabled_places.specs.Value.{value}
use Rattle.tabled_places.specs.Drawn.{drawn}
use Rattle.tabled_places.specs.State.{class_record_set, class_writes, classes}
use Rattle.tabled_places.specs.Lines.{horizontal_line_set, vertical_line_set}
use Rattle.tabled_configuration.specs.Configuration.{borders_set}
use Rattle.tabled_uses.specs.Examples.{text_of, whole_frame, no_rows, one_empty_cell, cells_of_three, offsets_from_start, whole_line, empty_crossing, start_before_end, end_then_start, cell_over_class}
use Rattle.tabled_uses.proofs.examples.places_and_levels.Goals as goal

pub returns-clause-whole_frame : goal.returns-clause-whole_frame
unfolding whole_frame text_of drawn value replay borders_set class_record_set class_writes classes horizontal_line_set vertical_line_set encode
returns-clause-whole_frame c = refl

pub returns-clause-no_rows : goal.returns-clause-no_rows
unfolding no_rows text_of drawn value replay borders_set class_record_set class_writes classes horizontal_line_set vertical_line_set encode
returns-clause-no_rows c = refl

pub returns-clause-one_empty_cell : goal.returns-clause-one_empty_cell
unfolding one_empty_cell text_of drawn value replay borders_set class_record_set class_writes classes horizontal_line_set vertical_line_set encode
returns-clause-one_empty_cell c = refl

pub returns-clause-cells_of_three : goal.returns-clause-cells_of_three
unfolding cells_of_three text_of drawn value replay borders_set class_record_set class_writes classes horizontal_line_set vertical_line_set encode
returns-clause-cells_of_three c = refl

pub returns-clause-offsets_from_start : goal.returns-clause-offsets_from_start
unfolding offsets_from_start text_of drawn value replay borders_set class_record_set class_writes classes horizontal_line_set vertical_line_set encode
returns-clause-offsets_from_start c = refl

pub returns-clause-whole_line : goal.returns-clause-whole_line
unfolding whole_line text_of drawn value replay borders_set class_record_set class_writes classes horizontal_line_set vertical_line_set encode
returns-clause-whole_line c = refl

pub returns-clause-empty_crossing : goal.returns-clause-empty_crossing
unfolding empty_crossing text_of drawn value replay borders_set class_record_set class_writes classes horizontal_line_set vertical_line_set encode
returns-clause-empty_crossing c = refl

pub returns-clause-start_before_end : goal.returns-clause-start_before_end
unfolding start_before_end text_of drawn value replay borders_set class_record_set class_writes classes horizontal_line_set vertical_line_set encode
returns-clause-start_before_end c = refl

pub returns-clause-end_then_start : goal.returns-clause-end_then_start
unfolding end_then_start text_of drawn value replay borders_set class_record_set class_writes classes horizontal_line_set vertical_line_set encode
returns-clause-end_then_start c = refl

pub returns-clause-cell_over_class : goal.returns-clause-cell_over_class
unfolding cell_over_class text_of drawn value replay borders_set class_record_set class_writes classes horizontal_line_set vertical_line_set encode
returns-clause-cell_over_class c = refl
