use Rattle.std.proofs.Common.{refl}
use lib.Utf8.{encode}
use Rattle.tabled_places.specs.Event.{replay}
use Rattle.tabled_places.specs.Value.{value}
use Rattle.tabled_places.specs.Drawn.{drawn}
use Rattle.tabled_places.specs.State.{class_record_set, class_writes, classes}
use Rattle.tabled_places.specs.Lines.{horizontal_line_set, vertical_line_set}
use Rattle.tabled_configuration.specs.Configuration.{borders_set, borders_replaced, horizontal_lines_put, vertical_lines_put}
use Rattle.tabled_uses.specs.Examples.{text_of, down_both_sides, all_cleared, boxed_cell, corner_alone, corner_erased, default_alone}
use Rattle.tabled_uses.proofs.examples.drawn_lines.Goals as goal

pub returns-clause-down_both_sides : goal.returns-clause-down_both_sides
unfolding down_both_sides text_of drawn value replay borders_set class_record_set class_writes classes horizontal_line_set vertical_line_set encode
returns-clause-down_both_sides c = refl

pub returns-clause-all_cleared : goal.returns-clause-all_cleared
unfolding all_cleared text_of drawn value replay borders_set borders_replaced horizontal_lines_put vertical_lines_put class_record_set class_writes classes horizontal_line_set vertical_line_set encode
returns-clause-all_cleared c = refl

pub returns-clause-boxed_cell : goal.returns-clause-boxed_cell
unfolding boxed_cell text_of drawn value replay borders_set class_record_set class_writes classes horizontal_line_set vertical_line_set encode
returns-clause-boxed_cell c = refl

pub returns-clause-corner_alone : goal.returns-clause-corner_alone
unfolding corner_alone text_of drawn value replay borders_set class_record_set class_writes classes horizontal_line_set vertical_line_set encode
returns-clause-corner_alone c = refl

pub returns-clause-corner_erased : goal.returns-clause-corner_erased
unfolding corner_erased text_of drawn value replay borders_set class_record_set class_writes classes horizontal_line_set vertical_line_set encode
returns-clause-corner_erased c = refl

pub returns-clause-default_alone : goal.returns-clause-default_alone
unfolding default_alone text_of drawn value replay borders_set class_record_set class_writes classes horizontal_line_set vertical_line_set encode
returns-clause-default_alone c = refl
