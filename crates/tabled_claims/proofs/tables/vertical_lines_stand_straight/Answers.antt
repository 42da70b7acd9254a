use Rattle.tabled_measure.specs.Sizes.{column_count}
use Rattle.tabled_measure.proofs.EqualRows.{all_equal}
use Rattle.tabled_text.proofs.Even.{text_straight}
use Rattle.tabled_claims.proofs.tables.vertical_lines_stand_straight.Goals as goal

pub returns : goal.returns
returns c = λ events table equal utf8 narrow none some col inside drawn.
    text_straight events table (all_equal (column_count table) 0 table equal) utf8 narrow none some col inside drawn
